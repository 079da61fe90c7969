-- Assets that are fetched for a call.
use Rattle.std.proofs.Common.{ℕ, ◌≡◌, ◌≤◌, inl, inr, List, length, replicate, None, refl, arith}
use Rattle.std.proofs.lemmas.List.{length-replicate}
use Rattle.io_edge.specs.Faults.{Rose}
use Rattle.io_edge.specs.Fetch.{IsFetchedOf}
use Rattle.io_edge.specs.Paths.{Paths}
use Rattle.io_edge.specs.declared.files.Fetched.{Fetched}
use Rattle.io_edge.specs.declared.files.Fetched.TheVariants.{Bytes, Missing, TooLong}
use Rattle.script_ast.specs.declared.operations.Op.{Op}
use Rattle.script_ast.specs.declared.operations.Op.TheVariants as op
use Rattle.control_side.specs.Assets.{HasAsset, IsAssetOf, found_of}

-- something is held for which a store answers so
pub found_is : (fetched : Fetched) → IsFetchedOf (found_of fetched) fetched
found_is (Bytes bytes) = refl
found_is Missing = tt
found_is (TooLong n) = let long : length (replicate {A = ℕ} n 0) ≡ n = length-replicate {A = ℕ} n 0 in omega (arith, long)

-- no other operation needs an asset
pub needs_none : (o : Op) → ((name path : List ℕ) → o ≡ op.DecodeAudioData name path → ⊥) → HasAsset o None
needs_none (op.DecodeAudioData name path) other = other name path refl
needs_none o other = tt

pub no_asset_held : (held : Paths) (o : Op) → ((name path : List ℕ) → o ≡ op.DecodeAudioData name path → ⊥) → IsAssetOf held o None
no_asset_held held (op.DecodeAudioData name path) other = other name path refl
no_asset_held held o other = tt

-- a count that rose later rose
pub rose_later : (a b d : ℕ) → a ≤ b → Rose b d → Rose a d
rose_later a b d later (inl more) = inl (omega arith)
rose_later a b d later (inr top) = inr top
