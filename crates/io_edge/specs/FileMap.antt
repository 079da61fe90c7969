-- Files in memory, as a finite map from the bytes of their paths to what they hold.
use Rattle.std.specs.Prelude.{ℕ, List, map, String}
use Rattle.std.specs.Ordering.{nat_cmp}
use Rattle.std.specs.Cmp.Lexicographic.{slice_cmp}
use Rattle.std.specs.FinMap as finite
use Rattle.std.specs.Coded.{Coded, coded_ℕ, coded_list}
use Rattle.std.specs.String.{string_bytes}
use Rattle.std.specs.declared.vec.Vec.{Vec}
use Rattle.std.specs.BTreeMap.{BTreeMap}
use Rattle.io_edge.specs.Paths.{Paths}

-- what each path holds
abbrev pub FileMap : Type 0
FileMap = finite.FinMap (slice_cmp nat_cmp) (List ℕ)

abbrev pub file_map_code : Coded FileMap
file_map_code = finite.code (coded_list coded_ℕ) (coded_list coded_ℕ)

abbrev pub paths_of : FileMap → Paths
paths_of files path = finite.get files path

abbrev pub file_map : {A B : Type 0} → BTreeMap (String A) (Vec ℕ B) → FileMap
file_map tree = finite.from_entries (map (λ e. (string_bytes e.0, e.1.items)) tree.entries)
