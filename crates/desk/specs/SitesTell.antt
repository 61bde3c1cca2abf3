-- The test of each site tells what its lattice admits.
use Rattle.std.specs.Prelude.{ℕ, ◌^◌, ◌<◌}
use Rattle.std.proofs.lemmas.Bool.Decides.{Decides-ltb}
use Rattle.divisors.specs.Divisibility.{decides_divides}
use Rattle.frames.specs.Drafts.{Framed}
use Rattle.desk.specs.Sites.{sets, divisors, frame, Tells}

pub sets_tell : Tells sets.admits sets.means
sets_tell x = Decides-ltb x (2 ^ 64)

pub divisors_tell : (n : ℕ) → 0 < n → Tells (divisors n).admits (divisors n).means
divisors_tell n positive x = decides_divides x n positive

pub frame_tells : (F : Framed) → Tells (frame F).admits (frame F).means
frame_tells F x = Decides-ltb x F.size
