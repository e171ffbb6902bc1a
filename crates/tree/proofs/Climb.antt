-- Level by level up to the root: what is put so far, and what is still to come.
use Rattle.std.proofs.Common.{◌≡◌, ℕ, zero, suc, ◌+◌, ◌^◌, ◌<◌, ◌≤◌, Bool, List, [], ◌∷◌, ◌++◌, map, length, sym, refl, ap, ◌∙◌, subst, arith}
use Rattle.tree_laws.proofs.Local.{not_none}
use Rattle.std.proofs.lemmas.List.{append_assoc}
use Rattle.digest.specs.declared.address.Address.{Address}
use Rattle.store.specs.Meaning.{Meaning}
use Rattle.store.specs.Puts.{AllPut, StoppedAt}
use Rattle.store.specs.declared.fault.StoreFault.{StoreFault}
use Rattle.store.specs.declared.puts.Stopped.{Stopped}
use Rattle.store.proofs.Turns.{put_none, all_append, stopped_append, stopped_longer}
use Rattle.tree_laws.specs.Boundary.{nodes}
use Rattle.tree_laws.specs.Layout.{Child, inner_bytes}
use Rattle.tree_laws.specs.Tree.{child_marked, next, up, chunks_up}
use Rattle.tree.specs.Build.{Stops}

-- a run of puts, and what was to be put after it
pub stops_after : (d : List ℕ → Address) (m n m' : Meaning) (xs ys zs : List (List ℕ)) (taken : ℕ) (s : Stopped) → AllPut d m xs taken n → StoppedAt d n ys s m' → Stops d m (xs ++ (ys ++ zs)) s.fault m'
stops_after d m n m' xs ys zs taken s all stop = record {
  stop = record { accepted = length xs + s.accepted; taken = taken + s.taken; fault = s.fault };
  at = stopped_append d m n xs taken all (ys ++ zs) s m' (stopped_longer d n m' ys zs s stop);
  fault_is = refl;
}

-- a run of puts, and one behind it that stops
pub stops_behind : (d : List ℕ → Address) (m n m' : Meaning) (xs ys : List (List ℕ)) (taken : ℕ) (f : StoreFault) → AllPut d m xs taken n → Stops d n ys f m' → Stops d m (xs ++ ys) f m'
stops_behind d m n m' xs ys taken f all stop = record {
  stop = record { accepted = length xs + stop.stop.accepted; taken = taken + stop.stop.taken; fault = stop.stop.fault };
  at = stopped_append d m n xs taken all ys stop.stop m' stop.at;
  fault_is = stop.fault_is;
}

module _ (d : List ℕ → Address) (kind : ℕ) where
  -- a level of two entries or more is cut
  up_more : (f l : ℕ) (cs : List Child) → 2 ≤ length cs → up d kind (suc f) l cs ≡ up d kind f (suc l) (next d kind l cs)
  up_more f l [] h = absurd (omega arith)
  up_more f l (c ∷ []) h = absurd (omega arith)
  up_more f l (c ∷ e ∷ es) h = refl

  chunks_more : (f l : ℕ) (cs : List Child) → 2 ≤ length cs → chunks_up d kind (suc f) l cs ≡ map (inner_bytes kind l) (nodes (child_marked l) cs) ++ chunks_up d kind f (suc l) (next d kind l cs)
  chunks_more f l [] h = absurd (omega arith)
  chunks_more f l (c ∷ []) h = absurd (omega arith)
  chunks_more f l (c ∷ e ∷ es) h = refl

  -- from the first entries cs₀ of level 1 the climb has come to the entries cs of level l, with fuel f
  pub record Climbing (m₀ : Meaning) (cs₀ : List Child) (f l : ℕ) (cs : List Child) (taken : ℕ) (m : Meaning) : Type 0 where
    pub root_is : up d kind f l cs ≡ up d kind 15 1 cs₀
    pub done : List (List ℕ)
    pub parts : chunks_up d kind 15 1 cs₀ ≡ done ++ chunks_up d kind f l cs
    pub put : AllPut d m₀ done taken m

  pub climb_start : (m : Meaning) (cs : List Child) → Climbing m cs 15 1 cs 0 m
  climb_start m cs = record { root_is = refl; done = []; parts = refl; put = put_none d m [] }

  module _ (m₀ m m' : Meaning) (cs₀ : List Child) (f l : ℕ) (cs : List Child) (taken : ℕ) (two : 2 ≤ length cs) (h : Climbing m₀ cs₀ (suc f) l cs taken m) where
    -- one level more
    pub climb_more : (chunks : List (List ℕ)) (above : List Child) (l' count : ℕ) → chunks ≡ map (inner_bytes kind l) (nodes (child_marked l) cs) → above ≡ next d kind l cs → l' ≡ suc l
        → AllPut d m chunks count m' → Climbing m₀ cs₀ f l' above (taken + count) m'
    climb_more chunks above l' count is next-is level-is put =
        subst (λ k. Climbing m₀ cs₀ f k above (taken + count) m') (sym level-is)
        (subst (λ ups. Climbing m₀ cs₀ f (suc l) ups (taken + count) m') (sym next-is) (record {
          root_is = sym (up_more f l cs two) ∙ h.root_is;
          done = h.done ++ chunks;
          parts = h.parts ∙ (ap (λ w. h.done ++ w) (chunks_more f l cs two ∙ ap (λ w. w ++ chunks_up d kind f (suc l) (next d kind l cs)) (sym is)) ∙ sym (append_assoc h.done chunks (chunks_up d kind f (suc l) (next d kind l cs))));
          put = all_append d m₀ m h.done taken h.put chunks count m' put;
        }))

    -- a level that was refused
    pub climb_stop : (chunks : List (List ℕ)) (s : Stopped) → chunks ≡ map (inner_bytes kind l) (nodes (child_marked l) cs) → StoppedAt d m chunks s m' → Stops d m₀ (chunks_up d kind 15 1 cs₀) s.fault m'
    climb_stop chunks s is stop =
        let rest = chunks_up d kind f (suc l) (next d kind l cs) in
        subst (λ w. Stops d m₀ w s.fault m') (sym (h.parts ∙ ap (λ w. h.done ++ w) (chunks_more f l cs two ∙ ap (λ w. w ++ rest) (sym is))))
        (stops_after d m₀ m m' h.done chunks rest taken s h.put stop)

-- two entries or more want fuel
pub some_fuel : (f n : ℕ) → 2 ≤ n → n ≤ 2 ^ f → (k : ℕ) × (f ≡ suc k)
some_fuel zero n two le = absurd (omega arith)
some_fuel (suc k) n two le = (k, refl)

-- a level with entries has a node
pub some_node : {X : Type 0} (mark : X → Bool) (xs : List X) → 0 < length xs → 0 < length (nodes mark xs)
some_node mark [] h = absurd (omega arith)
some_node {X = X} mark (x ∷ xs) h = at (nodes mark (x ∷ xs)) (not_none mark 0 x xs)
  where
    at : (ns : List (List X)) → (ns ≡ [] → ⊥) → 0 < length ns
    at [] none = absurd (none refl)
    at (n ∷ ns) none = omega arith
