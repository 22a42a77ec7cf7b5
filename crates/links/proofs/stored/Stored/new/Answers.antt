use Rattle.links.proofs.Calls.{none_waits, none_packed}
use Rattle.links.proofs.stored.Stored.new.Goals as goal

pub invariant_of-result : goal.invariant_of-result
invariant_of-result g c = record { packed = none_packed _ g.met.P.Packing.lawful c.new.result c.new.ensures.empty }

pub returns-clause-waits : goal.returns-clause-waits
returns-clause-waits g c = none_waits _ g.met.P.Packing.lawful c.new.result c.new.ensures.empty
