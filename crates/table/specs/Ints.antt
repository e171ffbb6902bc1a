-- What tells keys of kind 1 apart.
use Rattle.std.proofs.Common.{◌≡◌, ℕ, ◌^◌, ◌<◌, false, ℤ, pos, negsuc, sym, ap, ◌∙◌, arith, w64, to_z, of_z}
use mathlib.Core.HLevel.{is_prop→PathP}
use native.Mathlib.Bridge.{le_prop}
use lib.Signed.{lt_z, mag}
use mir.Val.{SFits}
use Rattle.std.specs.Int.{from_be_bytes}
use Rattle.std.proofs.Math.Facts.{Fits-of_z}
use Rattle.std.proofs.lemmas.Nat.{from_be_bytes-to_be_bytes_8}
use Rattle.std.proofs.lemmas.Int.{to_z-of_z}
use Rattle.std.proofs.lemmas.Bool.{ltb-false}
use Rattle.table.specs.Codes.{int_code}
use Rattle.table.specs.declared.int_key.IntKey.{IntKey}

pub same_int : (x y : IntKey) → x.value ≡ y.value → x ≡ y
same_int x y e = λ i. record {
  value = e i;
  fits = is_prop→PathP (λ j. mag (e j) < 2 ^ 63) (λ j. le_prop) x.fits y.fits i;
}

-- the number that 8 bytes encode is the one that was encoded
read_back : (x : IntKey) → to_z w64 (from_be_bytes w64 (int_code x.value)) ≡ x.value
read_back x =
    let s : SFits w64 x.value = record { sfits = x.fits } in
    ap (to_z w64) (from_be_bytes-to_be_bytes_8 (of_z w64 x.value) (Fits-of_z s).fits) ∙ to_z-of_z w64 x.value s

pub int_apart : (x y : IntKey) → int_code x.value ≡ int_code y.value → x ≡ y
int_apart x y e = same_int x y (sym (read_back x) ∙ (ap (λ bs. to_z w64 (from_be_bytes w64 bs)) e ∙ read_back y))

lt_z_total : (x y : ℤ) → lt_z x y ≡ false → lt_z y x ≡ false → x ≡ y
lt_z_total (pos n) (pos m) p q = ap pos (omega (arith, ltb-false n m p, ltb-false m n q))
lt_z_total (pos n) (negsuc m) p q = absurd (let z : ◌≡◌ {A = ℕ} 0 1 = cc in omega arith)
lt_z_total (negsuc n) (pos m) p q = absurd (let z : ◌≡◌ {A = ℕ} 0 1 = cc in omega arith)
lt_z_total (negsuc n) (negsuc m) p q = ap negsuc (omega (arith, ltb-false m n p, ltb-false n m q))

pub int_total : (x y : IntKey) → lt_z x.value y.value ≡ false → lt_z y.value x.value ≡ false → x ≡ y
int_total x y p q = same_int x y (lt_z_total x.value y.value p q)
