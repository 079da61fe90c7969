-- Lists of calls that lie in one another, and some that do not.
use Rattle.std.proofs.Common.{◌≡◌, ◌≤◌, ℕ, [], ◌∷◌, inl, inr, refl, arith, pos}
use Rattle.std.proofs.lemmas.List.Elements.{All-head}
use Rattle.script_ast.specs.Holders.{MayHold, AreNested}
use Rattle.script_ast.specs.declared.call_list.Call.{Call}
use Rattle.script_ast.specs.declared.operations.Op.{Op}
use Rattle.script_ast.specs.declared.operations.Op.TheVariants.{Suspend, StartRendering, Resume, ReadState}
use Rattle.script_ast.proofs.Nesting.{IsPast, open_first, open_none, none_block, next_block, block_nested}

abbrev call : ℕ → ℕ → Op → Call
call ordinal holder op = record { ordinal = ordinal; holder = holder; op = op }

-- the calls of a list come right after the call that holds it, and so in each list
lists_in_lists : AreNested (call 1 0 StartRendering ∷ call 2 1 (Suspend (pos 128)) ∷ call 3 2 Resume ∷ call 4 1 Resume ∷ call 5 0 ReadState ∷ [])
lists_in_lists =
    let within = next_block 2 (call 3 2 Resume) [] [] refl (omega arith) (inl refl) (none_block 3) (none_block 2) in
    let then = next_block 1 (call 4 1 Resume) [] [] refl (omega arith) (inl refl) (none_block 4) (none_block 1) in
    let held = next_block 1 (call 2 1 (Suspend (pos 128))) (call 3 2 Resume ∷ []) (call 4 1 Resume ∷ []) refl (omega arith) (inr refl) within then in
    let last = next_block 0 (call 5 0 ReadState) [] [] refl (omega arith) (inl refl) (none_block 5) (none_block 0) in
    block_nested _ (next_block 0 (call 1 0 StartRendering) (call 2 1 (Suspend (pos 128)) ∷ call 3 2 Resume ∷ call 4 1 Resume ∷ []) (call 5 0 ReadState ∷ []) refl (omega arith) (inr refl) held last)

-- a call without a `then` list holds none
resume_holds_none : AreNested (call 1 0 Resume ∷ call 2 1 ReadState ∷ []) → ⊥
resume_holds_none nested =
    let may : MayHold (call 1 0 Resume ∷ []) 1 = nested (call 1 0 Resume ∷ []) [] (call 2 1 ReadState) refl in
    elim may [
      | inl main ↦ cc
      | inr is ↦ elim (open_first _ _ 1 is) [
        | inl first ↦ let holds = first.1 in cc
        | inr rest ↦ open_none 1 rest
      ]
    ]

-- a list does not go on after a call outside of it
list_is_over : AreNested (call 1 0 StartRendering ∷ call 2 0 Resume ∷ call 3 1 ReadState ∷ []) → ⊥
list_is_over nested =
    let may : MayHold (call 1 0 StartRendering ∷ call 2 0 Resume ∷ []) 1 = nested (call 1 0 StartRendering ∷ call 2 0 Resume ∷ []) [] (call 3 1 ReadState) refl in
    elim may [
      | inl main ↦ cc
      | inr is ↦ elim (open_first _ _ 1 is) [
        | inl first ↦ let past : 1 ≤ 0 = All-head (IsPast 1) (call 2 0 Resume) [] first.2 in omega arith
        | inr rest ↦ elim (open_first _ _ 1 rest) [
          | inl second ↦ let number : 2 ≡ 1 = second.0 in omega arith
          | inr none ↦ open_none 1 none
        ]
      ]
    ]

-- and no call holds itself
holds_itself : AreNested (call 1 1 StartRendering ∷ []) → ⊥
holds_itself nested =
    let may : MayHold [] 1 = nested [] [] (call 1 1 StartRendering) refl in
    elim may [
      | inl main ↦ cc
      | inr is ↦ open_none 1 is
    ]
