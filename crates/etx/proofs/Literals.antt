-- Each literal of specs/Etx.antt is the f64 nearest to the number that it is called by.
-- Assumes nothing.
use mathlib.Core.Path.{◌≡◌, refl}
use mathlib.Core.Bool.{false}
use Prim.Native.Nat.{ℕ}
use lib.Ieee.{Float, binary64, of_bits, round}
use Rattle.etx.specs.Etx.{nought, hundredth, alpha, one, hundred, thousand, billion}

-- the f64 nearest to n / d
abbrev pub nearest : ℕ → ℕ → Float
nearest n d = round binary64 false n d

pub nought-is : nought ≡ nearest 0 1
unfolding of_bits round
nought-is = refl

pub hundredth-is : hundredth ≡ nearest 1 100
unfolding of_bits round
hundredth-is = refl

pub alpha-is : alpha ≡ nearest 1 32
unfolding of_bits round
alpha-is = refl

pub one-is : one ≡ nearest 1 1
unfolding of_bits round
one-is = refl

pub hundred-is : hundred ≡ nearest 100 1
unfolding of_bits round
hundred-is = refl

pub thousand-is : thousand ≡ nearest 1000 1
unfolding of_bits round
thousand-is = refl

pub billion-is : billion ≡ nearest 1000000000 1
unfolding of_bits round
billion-is = refl
