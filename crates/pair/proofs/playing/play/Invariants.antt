use Rattle.std.proofs.Common.{◌≡◌, ◌≤◌, map, length, take, vec_items, vec_len, vec_capacity}
use Rattle.pair.specs.View.{SamePair, call_of}
use Rattle.pair.proofs.Played.{Since}
use Rattle.pair.proofs.playing.play.Given as goal

abbrev pub invariant-loop-call : goal.invariant-loop-call
invariant-loop-call g l =
    Since g.R.Register.limit g.U.Link.waits g.D.Link.waits l.initial.pair (vec_items l.log) l.pair
    × SamePair l.initial.pair l.pair
    × (map call_of (vec_items l.log) ≡ take l.call-index l.calls)
    × (vec_len l.log ≡ l.call-index)
    × (length l.calls ≤ vec_capacity l.log)
