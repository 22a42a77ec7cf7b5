-- A run played on a fresh pair over rings that lose and double frames. Assumes nothing.
use Rattle.std.specs.Prelude.{◌≡◌, ℕ, List, map, vec_items}
use Rattle.law.specs.Law.{Played}
use Rattle.law.specs.Run.{Waiting}
use Rattle.links.specs.Packing.{frames}
use Rattle.links.specs.Ring.{in_ring}
use Rattle.links.specs.declared.faulty.Faulty.{Faulty}
use Rattle.links.specs.declared.link.Link.{Ghosts}
use Rattle.links.specs.declared.ring.InRing.{InRing}
use Rattle.links.specs.declared.stored.Stored.{Stored}
use Rattle.pair.specs.View.{call_of, limits_of, view}
use Rattle.pair.specs.declared.call.Call.{Call}
use Rattle.register.specs.declared.general.General.{General}
use Rattle.register.specs.declared.user.User.{User}
use Rattle.rounds.specs.declared.fresh.Round.{Round}

-- what a general register means, and what waits in a ring below the fault layer
abbrev pub limit_in : General → ℕ → ℕ
limit_in g u = g.limit

abbrev pub waits_in : {g : _} {h : _} → Faulty (Stored InRing g) h → Waiting
waits_in a = frames in_ring a.lower.queue

-- the calls were played on a fresh pair with so many channels: what was told is of these calls, is a run, and the sums stood all along
pub record Rounded (user : User) (channels : ℕ) (cs : List Call) (q : Round) : Type 0 where
  pub calls : map call_of (vec_items q.events) ≡ cs
  pub played : Played (limits_of limit_in waits_in waits_in q.pair) channels user (vec_items q.events) (view limit_in waits_in waits_in q.pair)
