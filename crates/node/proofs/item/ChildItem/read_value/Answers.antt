use Rattle.std.proofs.Common.{◌≡◌, ℕ, ◌<◌, ◌++◌, get_or, length, length-append, refl, ap, ◌∙◌, subst, arith}
use Rattle.digest.specs.Bytes.{bytes_of}
use Rattle.digest.proofs.RoundTrip.{forth}
use Rattle.tree_laws.specs.Layout.{four_bytes}
use Rattle.node.proofs.Linking.{link_cut_off, read_link, split_parts, fit_left, fit_right, four_of}
use Rattle.node.proofs.item.ChildItem.read_value.Goals as goal

pub returns-in_err-at : goal.returns-in_err-at
returns-in_err-at g c = rw c.from_residual.ensures (λ x t n e. link_cut_off c.args.s.now x.at x.below t (omega (arith, c.in_err-at.ensures.cases)) e)

pub returns-in_err-below : goal.returns-in_err-below
returns-in_err-below g c = rw c.from_residual-in_err-below.ensures (λ x t n e. link_cut_off c.args.s.now x.at x.below t (omega (arith, c.in_err-below.ensures.cases, c.in_ok-at.ensures.cases.2)) e)

pub returns : goal.returns
returns g c =
    let s = c.args.s.now in
    let one = c.in_ok-at.at.now in
    let two = c.in_ok-below.below.now in
    let r = c.in_ok-at.rest.now in
    let t = c.in_ok-below.rest.now in
    let at = c.from-at.result in
    let below = c.from_be_bytes-below.result in
    let p = c.in_ok-at.ensures.cases in
    let q = c.in_ok-below.ensures.cases in
    let e : s ≡ one ++ r = split_parts 32 s one r p.0 p.1 in
    let f : r ≡ two ++ t = split_parts 4 r two t q.0 q.1 in
    let l : length one ≡ 32 = omega (arith, ap length e, length-append one r, p.2) in
    let m : length two ≡ 4 = omega (arith, ap length f, length-append two t, q.2) in
    let small : (i : ℕ) → get_or (one ++ r) i 0 < 256 = λ i. subst (λ w. get_or w i 0 < 256) e (c.type_inv.s i).fits in
    let more : (i : ℕ) → get_or (two ++ t) i 0 < 256 = λ i. subst (λ w. get_or w i 0 < 256) f (fit_right one r small i) in
    let first : bytes_of at ≡ one = ap bytes_of c.from-at.ensures ∙ forth one l (fit_left one r small) in
    let second : four_bytes below ≡ two = four_of two m (fit_left two t more) below c.from_be_bytes-below.ensures in
    (refl, read_link s one two r t at below e f first second)
