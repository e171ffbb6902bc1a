-- What is held between the rounds of a block.
use Rattle.std.specs.Prelude.{◌≡◌, ℕ, ◌+◌, ◌%◌, ◌<◌, ◌≤◌, max, List, length, slice_index}
use Rattle.digest.specs.declared.sha.functions.Words.{Words}
use Rattle.digest.specs.declared.sha.rounds.Held.{Held}
use Rattle.digest.specs.Sha256.{after, word}

-- after t rounds over the block m from the words s: the standard's working words, and the block's own sixteen
-- schedule words or, from the 17th round, the newest sixteen, word k at place k % 16
pub record Holds (m : List ℕ) (s : Words) (t : ℕ) (h : Held) : Type 0 where
  pub working : h.words ≡ after m t s
  pub newest : (k : ℕ) → k < max t 16 → max t 16 ≤ k + 16 → slice_index h.window (k % 16) ≡ word m k

-- the rounds from t to u lead from what is held before them to what is held after, whatever the block and the words it began with
abbrev pub Leads : ℕ → ℕ → Held → Held → Type 0
Leads t u g h = (m : List ℕ) (s : Words) → length m ≡ 16 → Holds m s t g → Holds m s u h
