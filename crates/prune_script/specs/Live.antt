-- How the live nodes are found: from the destination against the connections.
use Rattle.std.specs.Prelude.{ℕ, ◌≡◌, ◌+◌, ◌==◌, ◌⊎◌, List, [], length, filter, not, Bool, true, false, if◌then◌else◌, Option, Some, None, slice_index_or}
use Rattle.std.specs.List.{filter_map}
use Rattle.law_base.specs.Members.{IsIn}

-- the node from which a connection leads to this one
abbrev pub source_to : ℕ → ℕ × ℕ → Option ℕ
source_to to made = if made.1 == to then Some made.0 else None

-- the nodes from which connections lead to a node
abbrev pub sources_to : ℕ → List (ℕ × ℕ) → List ℕ
sources_to to made = filter_map (source_to to) made

-- the nodes with a connection to this one, by lists for each
abbrev pub sources_at : List (List ℕ) → ℕ → List ℕ
sources_at sources node = slice_index_or sources node []

-- from a node the destination is reached
pub data IsLed (sources : List (List ℕ)) : ℕ → Type 0 where
  there : IsLed sources 0
  further : (node source : ℕ) → IsLed sources node → IsIn source (sources_at sources node) → IsLed sources source

abbrev pub is_marked : List Bool → ℕ → Bool
is_marked marks node = slice_index_or marks node false

-- Of some nodes those that were not marked are marked, and wait then.
pub record IsMarking (nodes : List ℕ) (marks : List Bool) (waiting : List ℕ) (marks' : List Bool) (waiting' : List ℕ) : Type 0 where
  pub these : (node : ℕ) → IsIn node nodes → is_marked marks' node ≡ true
  pub kept : (node : ℕ) → is_marked marks node ≡ true → is_marked marks' node ≡ true
  pub fresh : (node : ℕ) → is_marked marks' node ≡ true → (is_marked marks node ≡ true) ⊎ (IsIn node nodes × IsIn node waiting')
  pub still : (node : ℕ) → IsIn node waiting → IsIn node waiting'
  pub from : (node : ℕ) → IsIn node waiting' → IsIn node waiting ⊎ IsIn node nodes
  pub same : length marks' ≡ length marks
  pub number : length (filter not marks') + length waiting' ≡ length (filter not marks) + length waiting

-- The marks tell from which nodes the destination is reached.
pub record AreLed (sources : List (List ℕ)) (marks : List Bool) : Type 0 where
  pub same : length marks ≡ length sources
  pub there : is_marked marks 0 ≡ true
  pub closed : (node source : ℕ) → is_marked marks node ≡ true → IsIn source (sources_at sources node) → is_marked marks source ≡ true
  pub led : (node : ℕ) → is_marked marks node ≡ true → IsLed sources node
