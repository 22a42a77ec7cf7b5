use Rattle.std.proofs.Common.{refl, arith}
use Rattle.register.proofs.Users.{tells, order}
use Rattle.register.proofs.user.user_laws.Goals as goal

pub returns : goal.returns
returns c = record { equality = tells; order = order; equal = λ a b. refl; less = λ a b. grind arith; ranked = λ a b. refl }
