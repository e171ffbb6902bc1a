use Rattle.std.proofs.Common.{◌≡◌, ℕ, List, [], ◌∷◌, ◌++◌, length, sym, ap, ◌∙◌, w64, SFits, rules}
use Rattle.std.proofs.lemmas.List.{append_assoc}
use Rattle.std.proofs.lemmas.Slice.{pushed}
use Rattle.std.proofs.lemmas.Int.{to_z-of_z}
use Rattle.clusters.specs.Record.{signed_bytes}
use Rattle.clusters.proofs.reading.Reading.bytes.Goals as goal

joined : (n : ℕ) (tag tag' time time' value value' : List ℕ) → n ≡ length tag' → tag ≡ tag' → time ≡ time' → value ≡ value' →
    ((([] ++ n ∷ []) ++ tag) ++ time) ++ value ≡ length tag' ∷ (tag' ++ (time' ++ value'))
joined n tag tag' time time' value value' en et em ev = cc (append_assoc tag time value)

pub returns : goal.returns
returns c =
    let self = c.args.self.now in
    let of_time : SFits w64 self.time = search rules in
    let of_value : SFits w64 self.value = search rules in
    let none = c.new-bytes.ensures.items in
    let count = pushed (c.len.result ∷ []) none c.in_ok-push.was c.push.ensures.items in
    let tag = pushed c.as_bytes.result.now count c.in_ok-extend_from_slice.was c.extend_from_slice.ensures.items in
    let time = pushed c.to_be_bytes.result tag c.in_ok-extend_from_slice-2.was c.extend_from_slice-2.ensures.items in
    let value = pushed c.to_be_bytes-2.result time c.in_ok-extend_from_slice-3.was c.extend_from_slice-3.ensures.items in
    let is = c.as_bytes.ensures.value in
    value ∙ joined _ _ _ _ _ _ _ (c.len.ensures ∙ sym c.as_bytes.ensures.len ∙ ap length is) is
    (c.to_be_bytes.ensures ∙ ap signed_bytes (to_z-of_z w64 self.time of_time)) (c.to_be_bytes-2.ensures ∙ ap signed_bytes (to_z-of_z w64 self.value of_value))
