-- A call in words, as a command that makes it. Assumes nothing.
use Rattle.std.specs.Prelude.{ℕ, List, ◌++◌, codes, decimal}
use Rattle.law.specs.declared.event.Event.{Event}
use Rattle.law.specs.declared.event.Event.TheVariants as event
use Rattle.register.specs.declared.user.User.{User}
use Rattle.signalling.specs.Words.{ask_word}

-- a call at the terminal of a user: `at USER` and the rest
abbrev pub at_user : User → List ℕ → List ℕ
at_user u rest = codes "at " ++ (decimal u.0 ++ (codes " " ++ rest))

-- with the user of the pair's terminal
abbrev pub command_words : User → Event → List ℕ
command_words u (event.Opened v r) = codes "open " ++ decimal v.0
command_words u (event.Connected c a b r) = codes "connect " ++ (decimal c.0 ++ (codes " " ++ (decimal a.0 ++ (codes " " ++ decimal b.0))))
command_words u (event.Joined c r) = at_user u (codes "connect " ++ decimal c.0)
command_words u (event.Requested k c r) = at_user u (ask_word k ++ (codes " " ++ decimal c.0))
command_words u (event.Ticked t) = at_user u (codes "tick")
command_words u (event.Received r) = at_user u (codes "receive")
command_words u (event.Served v r) = codes "serve " ++ decimal v.0
command_words u (event.Notified v r) = codes "notify " ++ decimal v.0
command_words u (event.Cleared c r) = codes "clear " ++ decimal c.0
