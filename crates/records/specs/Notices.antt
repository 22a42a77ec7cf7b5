-- Which notice a user is sent next. Assumes nothing.
use Rattle.std.specs.Prelude.{◌≡◌, ℕ, ◌<◌, ◌≤◌, cond, ◌⊎◌, List, [], ◌∷◌, Some, None, Option, nat_lt}
use Rattle.frames.specs.declared.content.CallId.{CallId}
use Rattle.frames.specs.declared.content.News.{News}
use Rattle.frames.specs.declared.content.News.TheVariants.{PutOnHold, Retrieved, Released}
use Rattle.records.specs.Changes.{find}
use Rattle.records.specs.Legs.{side_of, leg_on}
use Rattle.records.specs.declared.legs.Record.{Record}
use Rattle.records.specs.declared.legs.Side.{Side}
use Rattle.records.specs.declared.notices.Notice.{Notice}

-- the news of the party on a side, and of a user
abbrev pub news_on : Option Side → Record → Option News
news_on None r = None
news_on (Some s) r = (leg_on s r).news

abbrev pub news_for : ℕ → Record → Option News
news_for u r = news_on (side_of u r) r

-- released goes before retrieved, and that before put on hold
abbrev pub rank : News → ℕ
rank PutOnHold = 1
rank Retrieved = 2
rank Released = 3

abbrev pub notice_of : CallId → Option News → Option Notice
notice_of c None = None
notice_of c (Some n) = Some (record { call = c; news = n })

-- the first of two, unless the second ranks higher
abbrev pub better : Option Notice → Option Notice → Option Notice
better None q = q
better (Some p) None = Some p
better (Some p) (Some q) = Some (cond (nat_lt (rank p.news) (rank q.news)) q p)

-- the better of the first record's and the next notice of the rest
unfoldable pub next_notice : ℕ → List Record → Option Notice
next_notice u [] = None
next_notice u (r ∷ rs) = better (notice_of r.id (news_for u r)) (next_notice u rs)

-- the news that a user has of a call
abbrev pub news_in : ℕ → Option Record → Option News
news_in u None = None
news_in u (Some r) = news_for u r

-- a user has news of a call
abbrev pub Has : ℕ → List Record → ℕ → News → Type 0
Has u rs c n = news_in u (find c rs) ≡ Some n

-- a notice goes before news of a call: it ranks higher, or equal and its identifier is no higher
abbrev pub GoesBefore : Notice → ℕ → News → Type 0
GoesBefore q c n = (rank n < rank q.news) ⊎ ((rank n ≡ rank q.news) × (q.call.0 ≤ c))

-- the best choice: none if the user has no news of any call; else news that he has, and it goes before whatever news he has
abbrev pub Best : ℕ → List Record → Option Notice → Type 0
Best u rs None = (c : ℕ) (n : News) → Has u rs c n → ⊥
Best u rs (Some q) = Has u rs q.call.0 q.news × ((c : ℕ) (n : News) → Has u rs c n → GoesBefore q c n)
