-- What roots tell of tables: rows fix their entries, and roots fix rows.
use Rattle.std.proofs.Common.{◌≡◌, ℕ, Bool, List, [], ◌∷◌, map, sym, refl, ap, ◌∙◌, inl, inr, ⊎_elim, arith}
use Rattle.std.proofs.lemmas.List.{length-map}
use Rattle.digest.specs.declared.address.Address.{Address}
use Rattle.digest.specs.Bytes.{Whole}
use Rattle.table.specs.Table.{ByKey}
use Rattle.table.specs.declared.entry.Entry.{Entry}
use Rattle.table.specs.Texts.{same_string}
use Rattle.tree_laws.specs.Tree.{root}
use Rattle.tree_laws.specs.Tables.{row_of, RootLaws}
use Rattle.tree_laws.proofs.Roots.{root_same}
use Rattle.tree_laws.proofs.Stores.{one_table}

module _ {K : Type 0} (code : K → List ℕ) (apart : (x y : K) → code x ≡ code y → x ≡ y) where
  row_fixes : (x y : Entry K) → row_of code x ≡ row_of code y → x ≡ y
  row_fixes x y e =
      let k = apart x.key y.key (ap (λ r. r.key) e) in
      let c = same_string x.cell.bytes y.cell.bytes (ap (λ r. r.cell) e) in
      λ i. record { key = k i; cell = record { bytes = c i } }

  pub rows_fix : (xs ys : List (Entry K)) → map (row_of code) xs ≡ map (row_of code) ys → xs ≡ ys
  rows_fix [] [] e = refl
  rows_fix [] (y ∷ ys) e = absurd (let z : ◌≡◌ {A = ℕ} 0 1 = cc in omega arith)
  rows_fix (x ∷ xs) [] e = absurd (let z : ◌≡◌ {A = ℕ} 0 1 = cc in omega arith)
  rows_fix (x ∷ xs) (y ∷ ys) e =
      let h : row_of code x ≡ row_of code y = cc in
      let t : map (row_of code) xs ≡ map (row_of code) ys = cc in
      let p = row_fixes x y h in
      let q = rows_fix xs ys t in
      cc

  pub root_laws : (d : List ℕ → Address) (whole : (b : List ℕ) → Whole (d b)) (kind : ℕ) (before : K → K → Bool) → ByKey before → RootLaws d kind code before
  root_laws d whole kind before by_key = record {
    alike = λ xs ys a b e. ap (λ es. root d kind (map (row_of code) es)) (by_key.alike xs ys a b e);
    told = λ xs ys a b e. ⊎_elim (λ r. inl (by_key.back xs ys (rows_fix xs ys r))) inr (root_same d whole kind (map (row_of code) xs) (map (row_of code) ys) (rw length-map a.few) (rw length-map b.few) e);
    single = λ m a xs ys s t p q. by_key.back xs ys (rows_fix xs ys (one_table d whole m kind (map (row_of code) xs) (map (row_of code) ys) (rw length-map s.few) (rw length-map t.few) p.held q.held (sym p.root_is ∙ q.root_is)));
  }
