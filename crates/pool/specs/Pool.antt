-- What becomes of the channels in use, and of claims and legs. Assumes nothing.
use Rattle.std.specs.Prelude.{ℕ, ◌+◌, ◌-◌, Bool, true, false, cond, not, ◌||◌, Some, None, Ok, Err, Option, Result, ◌==◌, nat_le, nat_lt}
use Rattle.text.specs.declared.fault.Fault.{Fault}
use Rattle.text.specs.Fault.{in_making, unless}
use Rattle.pool.specs.declared.claim.Bearer.{Bearer}
use Rattle.pool.specs.declared.claim.Claim.{Claim}
use Rattle.pool.specs.declared.pool.Pool.{Pool}

-- a leg without a channel, and one with a channel
abbrev pub bare : Bearer
bare = record { channel = false }

abbrev pub carried : Bearer
carried = record { channel = true }

abbrev pub fresh_claim : Claim
fresh_claim = record { spent = false }

abbrev pub spent_claim : Claim
spent_claim = record { spent = true }

-- a pool as its size and how many of its channels are in use
abbrev pub told_pool : Result Pool Fault → Result (ℕ × ℕ) Fault
told_pool (Ok p) = Ok (p.size, p.used)
told_pool (Err f) = Err f

-- what is made of a size
abbrev pub makes_pool : ℕ → Result (ℕ × ℕ) Fault
makes_pool n = unless (n == 0 || nat_lt 128 n) (in_making 53) (Ok (n, 0))

-- all channels are in use
abbrev pub full : Pool → Bool
full p = p.used == p.size

-- the claim that a draw hands out
abbrev pub claim_unless : Bool → Option Claim
claim_unless true = None
claim_unless false = Some fresh_claim

-- how many are in use after a draw
abbrev pub drawn : Pool → ℕ
drawn p = cond (full p) p.used (p.used + 1)

-- how many are in use after the channel of a leg came back, if it had one
abbrev pub freed : Bearer → Pool → ℕ
freed leg p = cond leg.channel (p.used - 1) p.used

-- at least two channels are free
abbrev pub leaves_two : Pool → Bool
leaves_two p = nat_le (p.used + 2) p.size

-- the legs of a new call
abbrev pub bearers_if : Bool → Option (Bearer × Bearer)
bearers_if true = Some (carried, carried)
bearers_if false = None

-- how many are in use after a call is given its channels
abbrev pub drawn_both : Pool → ℕ
drawn_both p = cond (leaves_two p) (p.used + 2) p.used

-- a leg after it asked for a channel
abbrev pub carries : Pool → Bearer → Bearer
carries p leg = cond (leg.channel || not (full p)) carried bare

-- how many are in use after a leg asked for a channel
abbrev pub drawn_for : Pool → Bearer → ℕ
drawn_for p leg = cond leg.channel p.used (drawn p)
