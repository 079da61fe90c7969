-- Which calls are heard, call by call.
use Rattle.std.proofs.Common.{ℕ, ◌≡◌, ◌+◌, ◌<◌, ◌≤◌, List, [], ◌∷◌, ◌++◌, set, take, get_or, length, replicate, Bool, true, false, ◌||◌, Some, None, inl, inr, refl, sym, ◌∙◌, ap, subst}
use Rattle.std.specs.Prelude.{if◌then◌else◌, ◌==◌}
use Rattle.std.specs.List.{list_any, cons_option}
use Rattle.std.proofs.lemmas.Bool.{cases_eq, eq-eqb, ne_eqb}
use Rattle.std.proofs.lemmas.List.{take_more, take_all, get_or-set_same, get_or-set_other}
use Rattle.std.proofs.lemmas.List.Elements.{filter_map-append}
use Rattle.std.proofs.lemmas.List.Folds.{list_any-append}
use Rattle.law_base.proofs.Tests.{or_second}
use Rattle.prune_script.specs.Deeds.{DeedView, is_heard, heard_by, heard_of}
use Rattle.prune_script.specs.Keeping.{TellsHeard}
use Rattle.prune_script.specs.Live.{is_marked}
use Rattle.prune_script.proofs.Marking.{none_marked}

pub tells_none : (live : ℕ → Bool) (n : ℕ) (marks : List Bool) → marks ≡ replicate n false → TellsHeard (heard_of live []) marks
tells_none live n marks none ordinal = ap (λ ms. is_marked ms ordinal) none ∙ none_marked n ordinal

or_false : (b : Bool) → (b || false) ≡ b
or_false true = refl
or_false false = refl

among_push : (live : ℕ → Bool) (ds : List DeedView) (d : DeedView) (ordinal : ℕ)
    → list_any (λ n. n == ordinal) (heard_of live (ds ++ d ∷ [])) ≡ (list_any (λ n. n == ordinal) (heard_of live ds) || list_any (λ n. n == ordinal) (heard_of live (d ∷ [])))
among_push live ds d ordinal = ap (list_any (λ n. n == ordinal)) (filter_map-append (heard_by live) ds (d ∷ [])) ∙ list_any-append (λ n. n == ordinal) (heard_of live ds) (heard_of live (d ∷ []))

module _ (live : ℕ → Bool) (ds : List DeedView) (i : ℕ) (none : DeedView) (low : i < length ds) (marks marks' : List Bool) (tells : TellsHeard (heard_of live (take i ds)) marks) where
  abbrev d : DeedView
  d = get_or ds i none

  by_push : ((ordinal : ℕ) → is_marked marks' ordinal ≡ (list_any (λ n. n == ordinal) (heard_of live (take i ds)) || list_any (λ n. n == ordinal) (heard_of live (d ∷ [])))) → TellsHeard (heard_of live (take (i + 1) ds)) marks'
  by_push each ordinal = each ordinal ∙ sym (among_push live (take i ds) d ordinal) ∙ ap (λ xs. list_any (λ n. n == ordinal) (heard_of live xs)) (sym (take_more ds i none low))

  -- a call that is not heard
  pub tells_unheard : is_heard live d ≡ false → marks' ≡ marks → TellsHeard (heard_of live (take (i + 1) ds)) marks'
  tells_unheard is same = by_push (λ ordinal.
      ap (λ ms. is_marked ms ordinal) same ∙ tells ordinal ∙ sym (or_false (list_any (λ n. n == ordinal) (heard_of live (take i ds))))
      ∙ ap (λ b. list_any (λ n. n == ordinal) (heard_of live (take i ds)) || list_any (λ n. n == ordinal) (cons_option (if b then Some d.ordinal else None) [])) (sym is))

  -- one that is
  pub tells_heard : is_heard live d ≡ true → d.ordinal < length marks → marks' ≡ set marks d.ordinal true → TellsHeard (heard_of live (take (i + 1) ds)) marks'
  tells_heard is within marked = by_push (λ ordinal.
      ap (λ ms. is_marked ms ordinal) marked ∙ here ordinal
      ∙ ap (λ b. list_any (λ n. n == ordinal) (heard_of live (take i ds)) || list_any (λ n. n == ordinal) (cons_option (if b then Some d.ordinal else None) [])) (sym is))
    where
      here : (ordinal : ℕ) → is_marked (set marks d.ordinal true) ordinal ≡ (list_any (λ n. n == ordinal) (heard_of live (take i ds)) || ((d.ordinal == ordinal) || false))
      here ordinal = elim (cases_eq ordinal d.ordinal) [
        | inl e ↦
            ap (is_marked (set marks d.ordinal true)) e ∙ get_or-set_same marks d.ordinal true false within
            ∙ sym (or_second (list_any (λ n. n == ordinal) (heard_of live (take i ds))) ((d.ordinal == ordinal) || false) (or_false (d.ordinal == ordinal) ∙ eq-eqb d.ordinal ordinal (sym e)))
        | inr ne ↦
            get_or-set_other marks d.ordinal ordinal true false ne ∙ tells ordinal
            ∙ sym (ap (λ b. list_any (λ n. n == ordinal) (heard_of live (take i ds)) || (b || false)) (ne_eqb d.ordinal ordinal (λ e. ne (sym e))) ∙ or_false (list_any (λ n. n == ordinal) (heard_of live (take i ds))))
      ]

pub tells_all : (live : ℕ → Bool) (ds : List DeedView) (i : ℕ) (marks : List Bool) → length ds ≤ i → TellsHeard (heard_of live (take i ds)) marks → TellsHeard (heard_of live ds) marks
tells_all live ds i marks past tells = subst (λ xs. TellsHeard (heard_of live xs) marks) (take_all i ds past) tells
