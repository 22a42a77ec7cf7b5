-- Users told apart by the test, and their order. Assumes nothing.
use Rattle.std.proofs.Common.{refl, inl, inr, ⊎_elim, arith}
use Rattle.std.proofs.lemmas.Bool.{eqb-true, eq-eqb, ltb-true, lt-ltb, cases_order}
use Rattle.register.specs.User.{Order, Tells}

pub tells : Tells
tells = record { only = eqb-true; equal = λ a. eq-eqb a a refl }

pub order : Order
order =
    record {
      strict = λ a e. omega (arith, ltb-true a a e);
      chain = λ a b c p q. lt-ltb a c (omega (arith, ltb-true a b p, ltb-true b c q));
      total = λ a b. ⊎_elim (λ e. inl (eq-eqb a b e)) (λ o. inr (⊎_elim (λ l. inl (lt-ltb a b l)) (λ g. inr (lt-ltb b a g)) o)) (cases_order a b);
    }
