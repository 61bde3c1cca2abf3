-- Sets: words of 64 bits, with the bits in both and the bits in either.
use Rattle.std.specs.Prelude.{ℕ, ◌^◌, ◌<◌, bit_or}
use Rattle.std.specs.Int.Bits.{bit_and}
use Rattle.free_lattice.specs.Lattices.{Meaning}

abbrev pub sets : Meaning ℕ
sets = record { admitted = λ w. w < 2 ^ 64; meet = bit_and; join = bit_or }
