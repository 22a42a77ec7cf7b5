-- The questions asked of a list of records, as what the library's searches of a list answer. Assumes nothing.
use Rattle.std.proofs.Common.{◌≡◌, ℕ, ◌+◌, ◌<◌, Bool, true, false, cond, eqb, List, [], ◌∷◌, length, get_or, Bor, None, Some, Option, is_some, refl, sym, ap, ◌∙◌, arith, filter}
use denote.Param.Members.{Called, Mut}
use Rattle.std.specs.Bool.{IsTrue}
use Rattle.std.specs.Iterator.Runs.{AllItemsGive, IsFirstToGive, ItemsMapTo, Run}
use Rattle.std.specs.List.{position_or_len}
use Rattle.std.specs.Option.{IfSome, IsSomeAnd, MatchOption, option_map}
use Rattle.std.proofs.lemmas.List.Recursion.{found_at, found_nowhere, is_position_or_len}
use Rattle.pool.specs.Pool.{bare}
use Rattle.register.specs.declared.user.User.{User}
use Rattle.records.specs.Legs.{one, standing, is_on_hold}
use Rattle.records.specs.Questions.{behind, first_of, held_by, next_in_line, place}
use Rattle.records.specs.declared.legs.Leg.{Leg}
use Rattle.records.specs.declared.legs.Record.{Record}

pub place_is : (c : ℕ) (rs : List Record) → place c rs ≡ position_or_len (λ (r : Record). eqb r.id.0 c) rs
place_is c rs = is_position_or_len (place c) (λ (r : Record). eqb r.id.0 c) refl (λ r rs. ap (λ (k : ℕ). cond (eqb r.id.0 c) 0 k) (omega arith)) rs

counted : (b : Bool) (r : Record) (rs : List Record) → one b + length rs ≡ length (cond b (r ∷ rs) rs)
counted true r rs = omega arith
counted false r rs = omega arith

pub held_is : (u : ℕ) (rs : List Record) → held_by u rs ≡ length (filter (λ (r : Record). is_on_hold (standing u r)) rs)
unfolding held_by
held_is u [] = refl
held_is u (r ∷ rs) = ap (λ k. one (is_on_hold (standing u r)) + k) (held_is u rs) ∙ counted (is_on_hold (standing u r)) r _

first_or : (o q : Option User) → first_of o q ≡ cond (is_some o) o q
first_or None q = refl
first_or (Some v) q = refl

some : (o : Option (Bor Record)) (r : Record) (P : Bor Record → Type 0) → option_map (λ y. y.now) o ≡ Some r → IfSome o P → IsSomeAnd o P
some None r P e h = let z : ◌≡◌ {A = ℕ} 0 1 = cc in absurd (omega arith)
some (Some x) r P e h = h

blank : Record
blank = let l : Leg = record { user = record { 0 = 0 }; bearer = bare; news = None } in record { id = record { 0 = 0 }; live = false; first = l; second = l }

module _ {S F : Type 0} {steps : S → Option (Bor Record) → S → Type 0} (g : Mut F (Bor Record × Unit {0}) (Option User)) (f : F) (u : ℕ) (rs : List Record) (p : Run steps)
    (computes : (x : Bor Record) (o : Option User) (q : F) → Called g f (x, tt) o q → (q ≡ f) × (o ≡ behind u x.now)) where
  gives : (o : Option User) (k : ℕ) → ItemsMapTo p (λ y. y.now) rs → k < p.len → IsSomeAnd (p.at k) (λ x. Called g f (x, tt) o f) → behind u (get_or rs k blank) ≡ o
  gives o k m l h = reached (p.at k) (get_or rs k blank) (m.2 k blank l) h
    where
      reached : (i : Option (Bor Record)) (r : Record) → option_map (λ y. y.now) i ≡ Some r → IsSomeAnd i (λ x. Called g f (x, tt) o f) → behind u r ≡ o
      reached None r e h = absurd h
      reached (Some x) r e h = let q : x.now ≡ r = cc in ap (behind u) (sym q) ∙ sym (computes x o f h).1

  -- what `find_map` answers
  pub line_is : (r : Option User) → ItemsMapTo p (λ y. y.now) rs → MatchOption r (IsTrue p.whole × AllItemsGive p g f None) (λ v. (i : ℕ) × (i < p.len) × (p.len ≡ i + 1) × IsFirstToGive p g f (Some v) None i) → r ≡ next_in_line u rs
  unfolding next_in_line
  line_is None m h = sym (found_nowhere (next_in_line u) (λ r. is_some (behind u r)) (behind u) None refl (λ r rs. first_or (behind u r) (next_in_line u rs)) rs blank (λ k l. let b : k < p.len = omega (arith, m.1 h.0) in ap is_some (gives None k m b (some (p.at k) _ _ (m.2 k blank b) (h.1 (λ a o q w. (computes a.0 o q w).0) k)))))
  line_is (Some v) m h =
      let w = h.3 (λ a o q w. (computes a.0 o q w).0) in
      let e : behind u (get_or rs h.0 blank) ≡ Some v = gives (Some v) h.0 m h.1 w.0 in
      sym (found_at (next_in_line u) (λ r. is_some (behind u r)) (behind u) None refl (λ r rs. first_or (behind u r) (next_in_line u rs)) rs h.0 blank (omega (arith, m.0, h.1)) (λ k l. ap is_some (gives None k m (omega (arith, h.1)) (w.1 k l))) (ap is_some e) ∙ e)
