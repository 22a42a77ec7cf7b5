-- The request that is opened is for a call that is held.
use Rattle.terminal.proofs.Requests.{opened_sound, asked_carried}
use Rattle.terminal.proofs.terminal.Terminal.request.Goals as goal

pub send_request-sent-requires : goal.send_request-sent-requires
send_request-sent-requires g c =
    asked_carried _ _ _ (opened_sound _ _ c.args.ask c.args.call tt c.opening-request.result c.self.view_is c.self.invariant c.in_ok-check_request.ensures c.opening-request.ensures)

pub invariant_of-self : goal.invariant_of-self
invariant_of-self g c =
    opened_sound _ _ c.args.ask c.args.call tt c.opening-request.result c.self.view_is c.self.invariant c.in_ok-check_request.ensures c.opening-request.ensures
