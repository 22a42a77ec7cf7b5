use Rattle.std.proofs.Common.{vec_items}
use Rattle.std.proofs.lemmas.Result.{err_from_is_err_and}
use Rattle.links.specs.Checks.{unfit}
use Rattle.links.specs.Meanings.{passes, fit_length, refused_unfit, refused_fit}
use Rattle.links.specs.Thin.{same}
use Rattle.outside_link.specs.Echo.{waiting}
use Rattle.outside_link.proofs.Echoes.{joins}
use Rattle.outside_link.proofs.echo.link.EchoLink.send.Goals as goal

pub returns-in_err-check_frame : goal.returns-in_err-check_frame
returns-in_err-check_frame c =
    let p = err_from_is_err_and c.from_residual.result c.from_residual.ensures.1 in
    rw (p.1, p.2) (refused_unfit 8 c.args.frame.now (waiting c.args.self.now) _ c.in_err-check_frame.ensures)

pub returns-then-third : goal.returns-then-third
returns-then-third c =
    let w = waiting c.args.self.now in
    refused_fit 8 c.args.frame.now w w _ (passes (unfit 8 c.args.frame.now) _ _ c.in_ok-check_frame.ensures) c.into.ensures (same w)

pub returns-then-len-eq4 : goal.returns-then-len-eq4
returns-then-len-eq4 c =
    let w = waiting c.args.self.now in
    refused_fit 8 c.args.frame.now w w _ (passes (unfit 8 c.args.frame.now) _ _ c.in_ok-check_frame.ensures) c.into-then-len-eq4.ensures (same w)

pub returns : goal.returns
returns c =
    let fit = passes (unfit 8 c.args.frame.now) _ _ c.in_ok-check_frame.ensures in
    record {
      fit = fit;
      waits = joins (vec_items c.args.self.now.letters) _ c.empty-letter.result _ c.args.frame.now c.push_reserved.ensures.items c.empty-letter.ensures c.append.ensures (fit_length 8 c.args.frame.now fit).1;
    }
