-- What holds of every put at every meaning, for any digest: laws that callers use in place of the definitions.
use Rattle.std.specs.Prelude.{◌≡◌, ℕ, ◌≤◌, true, false, List, [], ◌∷◌, length, is_ok, Ok, Result}
use Rattle.digest.specs.declared.address.Address.{Address}
use Rattle.digest.specs.Bytes.{same_address}
use Rattle.store.specs.declared.fault.Put.{Put}
use Rattle.store.specs.declared.fault.Put.TheVariants.{Held}
use Rattle.store.specs.declared.fault.StoreFault.{StoreFault}
use Rattle.store.specs.Meaning.{Meaning, chunk, longest, put_answer, after_put, put_after, OrMemory}
use Rattle.store.specs.Puts.{address_in, puts_after, Accepts, taken_of}

-- each of the chunks is at its address
abbrev pub AllHeld : (List ℕ → Address) → Meaning → List (List ℕ) → Type 0
AllHeld d m [] = Unit {0}
AllHeld d m (c ∷ cs) = ((m.at (d c) ≡ chunk c) × (length c ≤ longest)) × AllHeld d m cs

pub record PutLaws (d : List ℕ → Address) : Type 0 where
  -- a put leaves every other address, and the root
  pub others : (m : Meaning) (c : List ℕ) (r : Result Put StoreFault) (b : Address) → same_address b (d c) ≡ false → (after_put d m c r).at b ≡ m.at b
  pub root_stays : (m : Meaning) (c : List ℕ) (r : Result Put StoreFault) → (after_put d m c r).root ≡ m.root
  -- what is held stays held
  pub stays : (m : Meaning) (c : List ℕ) (r : Result Put StoreFault) → OrMemory (put_answer d m c) r → (b : Address) (x : List ℕ) → m.at b ≡ chunk x → (after_put d m c r).at b ≡ chunk x
  -- an accepted put answers the address of its chunk
  pub addressed : (m : Meaning) (c : List ℕ) (p : Put) → put_answer d m c ≡ Ok p → address_in p ≡ d c
  -- what was accepted is there
  pub present : (m : Meaning) (c : List ℕ) → is_ok (put_answer d m c) ≡ true → (put_after d m c).at (d c) ≡ chunk c
  -- a put of a chunk that is held is accepted and changes nothing, and so are many
  pub again : (m : Meaning) (c : List ℕ) → m.at (d c) ≡ chunk c → length c ≤ longest → (put_answer d m c ≡ Ok (Held (d c))) × (put_after d m c ≡ m)
  pub all_again : (m : Meaning) (cs : List (List ℕ)) → AllHeld d m cs → Accepts d m cs × (puts_after d m cs ≡ m) × (taken_of d m cs ≡ 0)
  -- after a run of accepted puts every chunk of it is there
  pub all_present : (m : Meaning) (cs : List (List ℕ)) → Accepts d m cs → AllHeld d (puts_after d m cs) cs
  -- two accepted puts are accepted in the other order too, and give the same meaning
  pub either_order : (m : Meaning) (x y : List ℕ) → is_ok (put_answer d m x) ≡ true → is_ok (put_answer d (put_after d m x) y) ≡ true → (is_ok (put_answer d m y) ≡ true) × (is_ok (put_answer d (put_after d m y) x) ≡ true) × (put_after d (put_after d m x) y ≡ put_after d (put_after d m y) x)
