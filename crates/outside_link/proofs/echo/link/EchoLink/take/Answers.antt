use Rattle.std.proofs.Common.{◌∷◌, ◌++◌, length, map, drop, vec_items, ap, ◌∙◌, arith, rules}
use Rattle.std.specs.List.{slice_get}
use Rattle.links.specs.Checks.{short}
use Rattle.links.specs.Thinned.{Thinned}
use Rattle.links.specs.Meanings.{passes, handed_out}
use Rattle.links.specs.Thin.{same}
use Rattle.text.specs.Octets.{held}
use Rattle.text.proofs.Filling.{held_length}
use Rattle.outside_link.specs.Echo.{waiting}
use Rattle.outside_link.proofs.Echoes.{is_some, stays, goes}
use Rattle.outside_link.proofs.echo.link.EchoLink.take.Goals as goal
use Rattle.outside_link.proofs.echo.link.EchoLink.take.Goals.{then-self, else-self}

pub returns-in_default : goal.returns-in_default
returns-in_default c = record {
  long = passes (short c.args.out.now) _ _ c.in_ok-check_taking.ensures;
  untouched = search rules;
  waits = same (waiting c.args.self.now);
}

pub returns : goal.returns
returns c =
    let ls = vec_items c.args.self.now.letters in
    let l = c.in-Some.field-0.now in
    let first = c.in-Some.ensures.value ∙ ap (λ xs. slice_get xs 0) c.deref.ensures.value in
    let left : Thinned (map held ls) (held l ∷ map held (vec_items c.if-self.self.1.0)) =
    elim c.if-self.branch [
      | then-self w ↦ goes l ls _ first (ap (λ s. vec_items s.1.0) w.self-is ∙ w.remove.ensures.by_index.2)
      | else-self w ↦ stays l ls _ first (ap (λ s. vec_items s.1.0) w.self-is)
    ] in
    let out = c.args.out.now in
    let n = length c.as_slice-frame.result.now in
    let count = ap length c.as_slice-frame.ensures in
    handed_out 8 out _ (held l) (map held ls) _ _
    (passes (short out) _ _ c.in_ok-check_taking.ensures)
    (is_some l ls first c.args.self.now.some) (omega (arith, held_length l, l.fits)) count (ap (λ x. x ++ drop n out) (c.copy_from_slice.ensures.after ∙ c.as_slice-frame.ensures)) left
