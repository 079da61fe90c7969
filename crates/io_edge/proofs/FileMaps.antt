-- Files in memory as a finite map: what it has at each path, and when two are one.
use Rattle.std.proofs.Common.{◌≡◌, ℕ, List, [], ◌∷◌, Bool, true, false, cond, map, Some, Option, option_map, refl, sym, ap, ◌∙◌}
use mathlib.Core.Bool.{false≢true}
use Rattle.std.specs.Prelude.{String}
use Rattle.std.specs.Ordering.{nat_cmp, eq_by_cmp}
use Rattle.std.specs.Cmp.Lexicographic.{slice_cmp, nat_list_cmp_total}
use Rattle.std.specs.FinMap.{get, find, get-from_entries, same_map, nat_cmp-IsAntisymmetric, slice_cmp-IsAntisymmetric}
use Rattle.std.specs.Map.{lookup}
use Rattle.std.specs.String.{string_bytes, string_cmp}
use Rattle.std.specs.Str.{bytes_eq}
use Rattle.std.specs.declared.vec.Vec.{Vec}
use Rattle.std.specs.BTreeMap.{BTreeMap, UpdatesBy, is_at, get_by_text}
use Rattle.std.proofs.lemmas.Bool.{cond-false, false_from_ne_true}
use Rattle.std.proofs.lemmas.Slice.Eq.{bytes_eq-Decides}
use Rattle.std.proofs.lemmas.Map.Text.{btree_map_updates_text}
use Rattle.io_edge.specs.FileMap.{FileMap, file_map, paths_of}
use Rattle.io_edge.specs.Paths.{Sets}

-- the bytes of a file that was found
abbrev pub contents_of : {B : Type 0} → Option (Vec ℕ B) → Option (List ℕ)
contents_of found = option_map (λ v. v.items) found

contents_of-cond : {B : Type 0} (b : Bool) (v : Vec ℕ B) (rest : Option (Vec ℕ B)) → cond b (Some v.items) (contents_of rest) ≡ contents_of (cond b (Some v) rest)
contents_of-cond true v rest = refl
contents_of-cond false v rest = refl

module _ {A B : Type 0} where
  find-file_map : (q : List ℕ) (es : List (String A × Vec ℕ B))
      → find (slice_cmp nat_cmp) q (map (λ e. (string_bytes e.0, e.1.items)) es) ≡ contents_of (lookup (is_at (λ k. slice_cmp nat_cmp q (string_bytes k))) es)
  find-file_map q [] = refl
  find-file_map q (e ∷ es) =
      ap (cond (eq_by_cmp (slice_cmp nat_cmp) q (string_bytes e.0)) (Some e.1.items)) (find-file_map q es) ∙ contents_of-cond _ e.1 _

  -- the finite map has at a path what the tree has
  pub paths_of-file_map : (tree : BTreeMap (String A) (Vec ℕ B)) (q : List ℕ) → paths_of (file_map tree) q ≡ contents_of (get_by_text tree q)
  paths_of-file_map tree q = get-from_entries nat_list_cmp_total _ q ∙ find-file_map q tree.entries

  -- an update of the tree at the bytes of a path sets that path
  pub Sets-from_update : (old new : BTreeMap (String A) (Vec ℕ B)) (path : List ℕ) (v : Vec ℕ B)
      → UpdatesBy string_cmp (λ k. slice_cmp nat_cmp path (string_bytes k)) old new (Some v)
      → Sets (paths_of (file_map old)) (paths_of (file_map new)) path v.items
  Sets-from_update old new path v updates = record {
    here = paths_of-file_map new path ∙ ap contents_of updates.1;
    others = λ q other.
        let differs = false_from_ne_true (bytes_eq path q) (λ e. other (sym ((bytes_eq-Decides path q).0 e))) in
        paths_of-file_map new q
        ∙ ap contents_of (btree_map_updates_text path old new (Some v) updates q ∙ cond-false (bytes_eq path q) (Some v) (get_by_text old q) differs)
        ∙ sym (paths_of-file_map old q);
  }

-- two finite maps that have the same at each path are one
pub same_files : (m n : FileMap) → ((q : List ℕ) → get m q ≡ get n q) → m ≡ n
same_files m n same = same_map nat_list_cmp_total (slice_cmp-IsAntisymmetric nat_cmp-IsAntisymmetric) m n same

-- to set a path to what it holds changes nothing
pub same_files-set : (old new : FileMap) (path bytes : List ℕ) → Sets (paths_of old) (paths_of new) path bytes → paths_of old path ≡ Some bytes → new ≡ old
same_files-set old new path bytes sets held = same_files new old (λ q.
    let at_path : (b : Bool) → bytes_eq q path ≡ b → get new q ≡ get old q = λ b.
    elim b as (λ b. bytes_eq q path ≡ b → get new q ≡ get old q) [
      | true ↦ λ e. let same = (bytes_eq-Decides q path).0 e in ap (get new) same ∙ sets.here ∙ sym held ∙ sym (ap (get old) same)
      | false ↦ λ e. sets.others q (λ same. false≢true (sym e ∙ (bytes_eq-Decides q path).1 same))
    ] in
    at_path (bytes_eq q path) refl)
