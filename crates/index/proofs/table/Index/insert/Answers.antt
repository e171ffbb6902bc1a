use Rattle.std.proofs.Common.{◌≡◌, [], ◌∷◌, ◌++◌, cond, length, Some, sym, ap, ◌∙◌, arith}
use Rattle.digest.specs.Bytes.{same_address}
use Rattle.index.specs.Places.{place}
use Rattle.index.proofs.Steps.{place_more}
use Rattle.index.proofs.table.Index.insert.Goals as goal

pub invariant_of-self-2 : goal.invariant_of-self-2
invariant_of-self-2 c =
    let t = c.args.self.now in
    let a = c.args.address in
    let ks = t.keys.items in
    let items : c.push_reserved.new.self.items ≡ ks ++ a ∷ [] = c.push_reserved.ensures.items ∙ ap (λ xs. xs ++ a ∷ []) c.in_ok-reserve.ensures.items in
    let long : t.keys.len ≡ length ks = t.keys.ok.0 in
    let n : c.len.result ≡ length ks = omega (arith, c.len.ensures, c.in_ok-reserve.ensures.len, long) in
    record { newest = λ q. c.in_ok-insert.ensures.updates.0 q ∙ ((λ i. cond (same_address a q) (Some (n i)) (t.newest q i)) ∙ (sym (place_more ks a q) ∙ ap (λ xs. place xs q) (sym items))) }
