-- A request that passes the checks is for an identifier that was accepted. Assumes nothing.
use Rattle.std.proofs.Common.{◌≡◌, ℕ, true, false, List, is_some, Some, None, Ok, Option, sym, refl, ap, ◌∙◌, arith}
use Rattle.std.proofs.lemmas.Bool.Decides.{nat_tests}
use Rattle.frames.specs.Layout.{no_call}
use Rattle.frames.specs.declared.content.CallId.{CallId}
use Rattle.signalling.specs.declared.ask.Ask.{Ask}
use Rattle.text.specs.Fault.{in_terminal, unless}
use Rattle.terminal.specs.Asking.{call_checked, request_checked, opening}
use Rattle.terminal.specs.Calls.{Sound, rising, known, find}
use Rattle.terminal.specs.State.{Model}
use Rattle.terminal.specs.declared.call.Call.{Call}
use Rattle.terminal.specs.declared.request.Request.{Request}
use Rattle.terminal.proofs.Marks.{find_range}

asks_known : (m : Model) (k : Ask) (c : CallId) (u : Unit) → rising m.last m.calls ≡ true → Ok u ≡ request_checked m k c → known m.last (Some (opening k c)) ≡ true
asks_known m k c u h e = go (find c.0 m.calls) refl e
  where
    go : (f : Option Call) → find c.0 m.calls ≡ f → Ok u ≡ unless (is_some m.request) (in_terminal 22) (call_checked k f) → known m.last (Some (opening k c)) ≡ true
    go None is e = grind (arith, nat_tests)
    go (Some x) is e = let r = find_range c.0 0 m.last m.calls x h is in grind (arith, nat_tests)

pub opened_known : (m : Model) (k : Ask) (c : CallId) (u : Unit) (q : Request) → rising m.last m.calls ≡ true → Ok u ≡ request_checked m k c → q ≡ opening k c → known m.last (Some q) ≡ true
opened_known m k c u q h e is = ap (λ x. known m.last (Some x)) is ∙ asks_known m k c u h e

pub opened_sound : (m n : Model) (k : Ask) (c : CallId) (u : Unit) (q : Request) → n ≡ m → Sound n.last n.calls n.request → Ok u ≡ request_checked m k c → q ≡ opening k c → Sound n.last n.calls (Some q)
opened_sound m n k c u q same h e is =
    record { ids = h.ids; top = h.top; asked = opened_known n k c u q h.ids (e ∙ ap (λ x. request_checked x k c) (sym same)) is }

-- the call of an open request is one that a frame can carry
pub asked_carried : (last : ℕ) (cs : List Call) (q : Request) → Sound last cs (Some q) → no_call q.call.0 ≡ false
asked_carried last cs q h = let top = h.top in let asked = h.asked in grind (arith, nat_tests, top, asked)
