-- The laws of bits by which the code's choose and majority, of fewer operations, are those of the standard.
use Rattle.std.proofs.Common.{◌≡◌, ℕ, zero, suc, ◌-◌, ◌/◌, ◌%◌, ◌^◌, ◌<◌, mod-eq_of_lt, arith}
use lib.Arith.{bin_ind}
use lib.Bits.{bit_and, bit_xor, and_zero_r, and_comm, and_self, and_mask, and_shr, and_mod, xor_comm, xor_assoc, xor_self, xor_shr, xor_mod, xor_add_and}

by_digits : {m n : ℕ} → m / 2 ^ 1 ≡ n / 2 ^ 1 → m % 2 ^ 1 ≡ n % 2 ^ 1 → m ≡ n
by_digits high low = omega arith

and_xor_digit : (c a b : ℕ) → c < 2 → bit_and (bit_xor a b) c ≡ bit_xor (bit_and a c) (bit_and b c)
and_xor_digit zero a b h = simp and_zero_r
and_xor_digit (suc zero) a b h = simp (λ (n : ℕ). and_mask n 1) (xor_mod a b 1)
and_xor_digit (suc (suc c)) a b h = omega arith

-- `and` distributes over `xor`: by the binary digits of c
and_xor : (c a b : ℕ) → bit_and (bit_xor a b) c ≡ bit_xor (bit_and a c) (bit_and b c)
and_xor =
    bin_ind _ (λ a b. simp and_zero_r) (λ c ih a b. by_digits
    (simp (and_shr, xor_shr) (ih (a / 2) (b / 2)))
    (simp (and_mod, xor_mod) (and_xor_digit (c % 2) (a % 2) (b % 2) (omega arith))))

-- the complement of a number of k digits is its `xor` with k ones
complement : (k x : ℕ) → x < 2 ^ k → 2 ^ k - 1 - x ≡ bit_xor x (2 ^ k - 1)
complement k x h = grind (arith, xor_add_and, and_mask, mod-eq_of_lt)

-- the digits of y where x has a one, else those of z, with one `and`
pub choose_by : (k x y z : ℕ) → x < 2 ^ k → z < 2 ^ k → bit_xor (bit_and (bit_xor y z) x) z ≡ bit_xor (bit_and x y) (bit_and (2 ^ k - 1 - x) z)
choose_by k x y z hx hz = grind (arith, complement, and_xor, and_comm, xor_assoc, and_mask, mod-eq_of_lt)

-- the digits that at least two of the three have, with one `and`
pub majority_by : (x y z : ℕ) → bit_xor (bit_and (bit_xor x y) (bit_xor y z)) y ≡ bit_xor (bit_xor (bit_and x y) (bit_and x z)) (bit_and y z)
majority_by x y z = grind (arith, and_xor, and_comm, and_self, xor_assoc, xor_comm, xor_self)
