-- The kept calls and their numbers, call by call.
use Rattle.std.proofs.Common.{ℕ, ◌≡◌, ◌+◌, ◌<◌, ◌≤◌, List, [], ◌∷◌, ◌++◌, map, length, set, replicate, Bool, true, false, ◌&&◌, ◌||◌, ◌⊎◌, Option, Some, None, inl, inr, refl, sym, ◌∙◌, ap, ap₂, subst, arith}
use Rattle.std.specs.Prelude.{if◌then◌else◌, ◌==◌, All, slice_index_or}
use Rattle.std.specs.List.{list_any}
use Rattle.std.proofs.lemmas.Option.{same_Some, none-some}
use Rattle.std.proofs.lemmas.Bool.{cases_eq, cases_lt, eq-eqb, ne_eqb}
use Rattle.std.proofs.lemmas.Bool.Decides.{nat_tests}
use Rattle.std.proofs.lemmas.List.{append-nil, map-append, length-map, length-replicate, get_or-replicate, get_or_past, length_push, get_or-set_same, get_or-set_other}
use Rattle.std.proofs.lemmas.List.Elements.{All-nil, All-head, All-tail, All-push, All-weaker}
use Rattle.law_base.proofs.Tests.{or_cases}
use Rattle.script_ast.specs.declared.call_list.Call.{Call}
use Rattle.prune_script.specs.Pruned.{kept_calls, is_start, place_in, renumbered}
use Rattle.prune_script.specs.Keeping.{holders_after, list_place, AreKept, TellsHeard}
use Rattle.prune_script.specs.Live.{is_marked}
use Rattle.prune_script.proofs.Places.{place_of_other, place_of_last}

abbrev pub is_among : List ℕ → ℕ → Bool
is_among ordinals ordinal = list_any (λ n. n == ordinal) ordinals

-- whether a call is kept, where calls are kept in the lists of these
abbrev pub is_kept : List ℕ → List ℕ → Call → Bool
is_kept heard holders call = is_among heard call.ordinal && is_among holders call.holder

-- ---- one call more

abbrev pub holders_with : List ℕ → Call → List ℕ
holders_with holders call = if is_start call.op then holders else call.ordinal ∷ holders

pub kept_push : (heard holders : List ℕ) (calls : List Call) (call : Call)
    → kept_calls heard holders (calls ++ call ∷ []) ≡ kept_calls heard holders calls ++ (if is_kept heard (holders_after heard holders calls) call then call ∷ [] else [])
kept_push heard holders [] call = refl
kept_push heard holders (first ∷ calls) call = by_test (is_kept heard holders first) (kept_push heard (holders_with holders first) calls call) (kept_push heard holders calls call)
  where
    next : List ℕ
    next = holders_with holders first

    by_test : (b : Bool)
        → kept_calls heard next (calls ++ call ∷ []) ≡ kept_calls heard next calls ++ (if is_kept heard (holders_after heard next calls) call then call ∷ [] else [])
        → kept_calls heard holders (calls ++ call ∷ []) ≡ kept_calls heard holders calls ++ (if is_kept heard (holders_after heard holders calls) call then call ∷ [] else [])
        → (if b then first ∷ kept_calls heard next (calls ++ call ∷ []) else kept_calls heard holders (calls ++ call ∷ []))
        ≡ (if b then first ∷ kept_calls heard next calls else kept_calls heard holders calls)
        ++ (if is_kept heard (if b then holders_after heard next calls else holders_after heard holders calls) call then call ∷ [] else [])
    by_test true kept dropped = ap (λ cs. first ∷ cs) kept
    by_test false kept dropped = dropped

pub holders_push : (heard holders : List ℕ) (calls : List Call) (call : Call)
    → holders_after heard holders (calls ++ call ∷ []) ≡ (if is_kept heard (holders_after heard holders calls) call then holders_with (holders_after heard holders calls) call else holders_after heard holders calls)
holders_push heard holders [] call = refl
holders_push heard holders (first ∷ calls) call = by_test (is_kept heard holders first) (holders_push heard (holders_with holders first) calls call) (holders_push heard holders calls call)
  where
    next : List ℕ
    next = holders_with holders first

    with_last : List ℕ → List ℕ
    with_last hs = if is_kept heard hs call then holders_with hs call else hs

    by_test : (b : Bool) → holders_after heard next (calls ++ call ∷ []) ≡ with_last (holders_after heard next calls) → holders_after heard holders (calls ++ call ∷ []) ≡ with_last (holders_after heard holders calls)
        → (if b then holders_after heard next (calls ++ call ∷ []) else holders_after heard holders (calls ++ call ∷ [])) ≡ with_last (if b then holders_after heard next calls else holders_after heard holders calls)
    by_test true kept dropped = kept
    by_test false kept dropped = dropped

-- ---- numbers

-- the calls that are kept of these, and those in whose lists calls are kept
abbrev pub kept_of : List ℕ → List Call → List Call
kept_of heard calls = kept_calls heard (0 ∷ []) calls

abbrev pub holders_of : List ℕ → List Call → List ℕ
holders_of heard calls = holders_after heard (0 ∷ []) calls

-- the calls as they are numbered among themselves
abbrev pub renumbered_all : List Call → List Call
renumbered_all kept = map (renumbered kept) kept

-- a call with an ordinal up to this one, that stands in the main list or in that of an earlier call
abbrev pub IsEarly : ℕ → Call → Type 0
IsEarly count call = (call.ordinal ≤ count) × (call.holder < call.ordinal)

pub record IsHolding (heard : List ℕ) (calls : List Call) : Type 0 where
  pub holders : (ordinal : ℕ) → is_among (holders_of heard calls) ordinal ≡ true → ordinal ≤ length calls
  pub kept : All (IsEarly (length calls)) (kept_of heard calls)

apart : (a b : ℕ) → a < b → (b == a) ≡ false
apart a b l = grind (arith, nat_tests)

equal : (a b : ℕ) → (a == b) ≡ true → a ≡ b
equal a b e = grind (arith, nat_tests)

same_map : {X Y : Type 0} (f g : X → Y) (xs : List X) → All (λ x. f x ≡ g x) xs → map f xs ≡ map g xs
same_map f g [] same = refl
same_map f g (x ∷ xs) same = ap₂ (λ y ys. y ∷ ys) (All-head (λ x. f x ≡ g x) x xs same) (same_map f g xs (All-tail (λ x. f x ≡ g x) x xs same))

pub none_holding : (heard : List ℕ) → IsHolding heard []
none_holding heard = record {
  holders = λ ordinal among. first ordinal (0 == ordinal) refl among;
  kept = All-nil (IsEarly 0);
}
  where
    first : (ordinal : ℕ) (b : Bool) → (0 == ordinal) ≡ b → (b || false) ≡ true → ordinal ≤ 0
    first ordinal true is among = let e = equal 0 ordinal is in omega arith
    first ordinal false is among = absurd cc

module _ (heard : List ℕ) (calls : List Call) (call : Call) (held : IsHolding heard calls) (here : call.ordinal ≡ length calls + 1) (later : call.holder < call.ordinal) where
  abbrev before : List Call
  before = kept_of heard calls

  abbrev holders : List ℕ
  holders = holders_of heard calls

  -- an early call has the same numbers
  same_numbers : (c : Call) → IsEarly (length calls) c → renumbered before c ≡ renumbered (before ++ call ∷ []) c
  same_numbers c early = ap₂ (λ ordinal holder. record c { ordinal = ordinal; holder = holder })
      (sym (place_of_other before call c.ordinal (apart c.ordinal call.ordinal (let l = early.0 in omega arith))))
      (sym (place_of_other before call c.holder (apart c.holder call.ordinal (let l = early.0 in let m = early.1 in omega arith))))

  earlier : All (λ (c : Call). c.ordinal < call.ordinal) before
  earlier = All-weaker (IsEarly (length calls)) (λ (c : Call). c.ordinal < call.ordinal) (λ c early. let l = early.0 in omega arith) before held.kept

  pub number_of_last : place_in (before ++ call ∷ []) call.ordinal ≡ length before + 1
  number_of_last = place_of_last before call earlier ∙ omega arith

  pub number_of_holder : place_in (before ++ call ∷ []) call.holder ≡ place_in before call.holder
  number_of_holder = place_of_other before call call.holder (apart call.holder call.ordinal later)

  -- a call that joins the kept ones comes last, and the others keep their numbers
  pub renumbered_push : renumbered_all (before ++ call ∷ []) ≡ renumbered_all before ++ record call { ordinal = length before + 1; holder = place_in before call.holder } ∷ []
  renumbered_push =
      map-append (renumbered (before ++ call ∷ [])) before (call ∷ [])
      ∙ ap₂ (λ cs c. cs ++ c ∷ [])
      (sym (same_map (renumbered before) (renumbered (before ++ call ∷ [])) before (All-weaker (IsEarly (length calls)) (λ c. renumbered before c ≡ renumbered (before ++ call ∷ []) c) same_numbers before held.kept)))
      (ap₂ (λ ordinal holder. record call { ordinal = ordinal; holder = holder }) number_of_last number_of_holder)

  more_early : (c : Call) → IsEarly (length calls) c → IsEarly (length (calls ++ call ∷ [])) c
  more_early c early = (let l = early.0 in let n = length_push calls call in omega arith, early.1)

  -- ---- a call that is kept

  module _ (is : is_kept heard holders call ≡ true) where
    pub kept_with : kept_of heard (calls ++ call ∷ []) ≡ before ++ call ∷ []
    kept_with = kept_push heard (0 ∷ []) calls call ∙ ap (λ b. before ++ (if b then call ∷ [] else [])) is

    pub holders_kept : holders_of heard (calls ++ call ∷ []) ≡ holders_with holders call
    holders_kept = holders_push heard (0 ∷ []) calls call ∙ ap (λ b. if b then holders_with holders call else holders) is

    pub among_after : (ordinal : ℕ) → is_among (holders_of heard (calls ++ call ∷ [])) ordinal ≡ true → (ordinal ≡ call.ordinal) ⊎ (is_among holders ordinal ≡ true)
    among_after ordinal among = by_start (is_start call.op) (sym (ap (λ hs. is_among hs ordinal) holders_kept) ∙ among)
      where
        by_start : (b : Bool) → is_among (if b then holders else call.ordinal ∷ holders) ordinal ≡ true → (ordinal ≡ call.ordinal) ⊎ (is_among holders ordinal ≡ true)
        by_start true among = inr among
        by_start false among = elim (or_cases (call.ordinal == ordinal) (is_among holders ordinal) among) [ inl e ↦ inl (sym (equal call.ordinal ordinal e)) | inr rest ↦ inr rest ]

    pub holding_kept : IsHolding heard (calls ++ call ∷ [])
    holding_kept = record {
      holders = λ ordinal among. elim (among_after ordinal among) [
        | inl e ↦ let n = length_push calls call in omega arith
        | inr rest ↦ let l = held.holders ordinal rest in let n = length_push calls call in omega arith
      ];
      kept = subst (λ cs. All (IsEarly (length (calls ++ call ∷ []))) cs) (sym kept_with)
          (All-push (IsEarly (length (calls ++ call ∷ []))) before call (All-weaker (IsEarly (length calls)) (IsEarly (length (calls ++ call ∷ []))) more_early before held.kept)
          (let n = length_push calls call in omega arith, later));
    }

    module _ (kept : List Call) (places : List (Option ℕ)) (are : AreKept heard calls kept places) (low : call.ordinal < length places) where
      new_place : (ordinal : ℕ) (b : Bool) → is_start call.op ≡ b
          → slice_index_or (if b then places else set places call.ordinal (Some (length before + 1))) ordinal None
          ≡ list_place (if b then holders else call.ordinal ∷ holders) (before ++ call ∷ []) ordinal
      new_place ordinal true start = are.places_are ordinal ∙ by_among (is_among holders ordinal) refl
        where
          by_among : (b : Bool) → is_among holders ordinal ≡ b → (if b then Some (place_in before ordinal) else None) ≡ (if b then Some (place_in (before ++ call ∷ []) ordinal) else None)
          by_among true among = ap Some (sym (place_of_other before call ordinal (apart ordinal call.ordinal (let l = held.holders ordinal among in omega arith))))
          by_among false among = refl
      new_place ordinal false start = elim (cases_eq ordinal call.ordinal) [
        | inl e ↦
            ap (λ n. slice_index_or (set places call.ordinal (Some (length before + 1))) n None) e
            ∙ get_or-set_same places call.ordinal (Some (length before + 1)) None low
            ∙ sym (ap (λ n. list_place (call.ordinal ∷ holders) (before ++ call ∷ []) n) e
            ∙ ap (λ b. if b || is_among holders call.ordinal then Some (place_in (before ++ call ∷ []) call.ordinal) else None) (eq-eqb call.ordinal call.ordinal refl)
            ∙ ap Some number_of_last)
        | inr ne ↦
            get_or-set_other places call.ordinal ordinal (Some (length before + 1)) None ne
            ∙ are.places_are ordinal
            ∙ ap (λ n. if is_among holders ordinal then Some n else None) (sym (place_of_other before call ordinal (ne_eqb call.ordinal ordinal (λ e. ne (sym e)))))
            ∙ sym (ap (λ b. if b || is_among holders ordinal then Some (place_in (before ++ call ∷ []) ordinal) else None) (ne_eqb call.ordinal ordinal (λ e. ne (sym e))))
      ]

      pub are_kept_with : (places' : List (Option ℕ)) → places' ≡ (if is_start call.op then places else set places call.ordinal (Some (length before + 1)))
          → AreKept heard (calls ++ call ∷ []) (kept ++ record call { ordinal = length before + 1; holder = place_in before call.holder } ∷ []) places'
      are_kept_with places' same = record {
        kept_are = ap (λ cs. cs ++ record call { ordinal = length before + 1; holder = place_in before call.holder } ∷ []) are.kept_are ∙ sym renumbered_push ∙ ap renumbered_all (sym kept_with);
        places_are = λ ordinal.
            ap (λ ps. slice_index_or ps ordinal None) same ∙ new_place ordinal (is_start call.op) refl
            ∙ ap₂ (λ hs ks. list_place hs ks ordinal) (sym holders_kept) (sym kept_with);
      }

  -- ---- one that is not

  module _ (is : is_kept heard holders call ≡ false) where
    pub kept_without : kept_of heard (calls ++ call ∷ []) ≡ before
    kept_without = kept_push heard (0 ∷ []) calls call ∙ ap (λ b. before ++ (if b then call ∷ [] else [])) is ∙ append-nil before

    pub holders_without : holders_of heard (calls ++ call ∷ []) ≡ holders
    holders_without = holders_push heard (0 ∷ []) calls call ∙ ap (λ b. if b then holders_with holders call else holders) is

    pub holding_without : IsHolding heard (calls ++ call ∷ [])
    holding_without = record {
      holders = λ ordinal among. let l = held.holders ordinal (sym (ap (λ hs. is_among hs ordinal) holders_without) ∙ among) in let n = length_push calls call in omega arith;
      kept = subst (λ cs. All (IsEarly (length (calls ++ call ∷ []))) cs) (sym kept_without) (All-weaker (IsEarly (length calls)) (IsEarly (length (calls ++ call ∷ []))) more_early before held.kept);
    }

    pub are_kept_without : (kept : List Call) (places : List (Option ℕ)) → AreKept heard calls kept places → AreKept heard (calls ++ call ∷ []) kept places
    are_kept_without kept places are = record {
      kept_are = are.kept_are ∙ ap renumbered_all (sym kept_without);
      places_are = λ ordinal. are.places_are ordinal ∙ ap₂ (λ hs ks. list_place hs ks ordinal) (sym holders_without) (sym kept_without);
    }

-- ---- what the marks and the places tell

pub first_kept : (heard : List ℕ) (n : ℕ) (kept : List Call) (places : List (Option ℕ)) → kept ≡ [] → places ≡ set (replicate n None) 0 (Some 0) → 0 < n → AreKept heard [] kept places
first_kept heard n kept places none same some = record {
  kept_are = none;
  places_are = λ ordinal. ap (λ ps. slice_index_or ps ordinal None) same ∙ each ordinal;
}
  where
    each : (ordinal : ℕ) → slice_index_or (set (replicate n None) 0 (Some 0)) ordinal None ≡ list_place (0 ∷ []) [] ordinal
    each ordinal = elim (cases_eq ordinal 0) [
      | inl e ↦
          ap (λ k. slice_index_or (set (replicate n None) 0 (Some 0)) k None) e
          ∙ get_or-set_same (replicate {A = Option ℕ} n None) 0 (Some 0) None (let l = length-replicate {A = Option ℕ} n None in omega arith)
          ∙ sym (ap (λ k. list_place (0 ∷ []) [] k) e)
      | inr ne ↦
          get_or-set_other (replicate {A = Option ℕ} n None) 0 ordinal (Some 0) None ne
          ∙ none_there ordinal
          ∙ sym (ap (λ b. if b || false then Some (place_in [] ordinal) else None) (ne_eqb 0 ordinal (λ e. ne (sym e))))
    ]
      where
        none_there : (k : ℕ) → slice_index_or (replicate {A = Option ℕ} n None) k None ≡ None
        none_there k = elim (cases_lt k n) [
          | inl low ↦ get_or-replicate {A = Option ℕ} n k None None low
          | inr past ↦ get_or_past (replicate {A = Option ℕ} n None) k None (let l = length-replicate {A = Option ℕ} n None in omega arith)
        ]

module _ (ordinals : List ℕ) (heard : List Bool) (tells : TellsHeard ordinals heard) (calls : List Call) (call : Call) (held : IsHolding ordinals calls) (here : call.ordinal ≡ length calls + 1) (later : call.holder < call.ordinal)
    (kept : List Call) (places : List (Option ℕ)) (are : AreKept ordinals calls kept places) where
  abbrev told : Option ℕ
  told = if is_marked heard call.ordinal then slice_index_or places call.holder None else None

  told_is : told ≡ (if is_among ordinals call.ordinal then (if is_among (holders_of ordinals calls) call.holder then Some (place_in (kept_of ordinals calls) call.holder) else None) else None)
  told_is = ap₂ (λ b o. if b then o else None) (tells call.ordinal) (are.places_are call.holder)

  -- a call with a place is kept
  pub told_some : (holder : ℕ) → Some holder ≡ told → (is_kept ordinals (holders_of ordinals calls) call ≡ true) × (holder ≡ place_in (kept_of ordinals calls) call.holder)
  told_some holder is = by_tests (is_among ordinals call.ordinal) (is_among (holders_of ordinals calls) call.holder) (is ∙ told_is)
    where
      by_tests : (a b : Bool) → Some holder ≡ (if a then (if b then Some (place_in (kept_of ordinals calls) call.holder) else None) else None) → ((a && b) ≡ true) × (holder ≡ place_in (kept_of ordinals calls) call.holder)
      by_tests true true e = (refl, same_Some holder (place_in (kept_of ordinals calls) call.holder) e)
      by_tests true false e = absurd (none-some holder (sym e))
      by_tests false b e = absurd (none-some holder (sym e))

  -- one without is not
  pub told_none : None ≡ told → is_kept ordinals (holders_of ordinals calls) call ≡ false
  told_none is = by_tests (is_among ordinals call.ordinal) (is_among (holders_of ordinals calls) call.holder) (is ∙ told_is)
    where
      by_tests : (a b : Bool) → None ≡ (if a then (if b then Some (place_in (kept_of ordinals calls) call.holder) else None) else None) → (a && b) ≡ false
      by_tests true true e = absurd (none-some (place_in (kept_of ordinals calls) call.holder) e)
      by_tests true false e = refl
      by_tests false b e = refl

  kept_length : length kept ≡ length (kept_of ordinals calls)
  kept_length = ap length are.kept_are ∙ length-map (kept_of ordinals calls) (renumbered (kept_of ordinals calls))

  pub some_step : (holder : ℕ) (kept' : List Call) (places' : List (Option ℕ)) → Some holder ≡ told → call.ordinal < length places
      → kept' ≡ kept ++ record call { ordinal = length kept + 1; holder = holder } ∷ []
      → places' ≡ (if is_start call.op then places else set places call.ordinal (Some (length kept + 1)))
      → IsHolding ordinals (calls ++ call ∷ []) × AreKept ordinals (calls ++ call ∷ []) kept' places'
  some_step holder kept' places' is low added marked =
      let given = told_some holder is in (
        holding_kept ordinals calls call held here later given.0,
        subst (λ ks. AreKept ordinals (calls ++ call ∷ []) ks places')
            (sym (added ∙ ap₂ (λ n h. kept ++ record call { ordinal = n + 1; holder = h } ∷ []) kept_length given.1))
            (are_kept_with ordinals calls call held here later given.0 kept places are low places' (marked ∙ ap (λ n. if is_start call.op then places else set places call.ordinal (Some (n + 1))) kept_length)),
      )

  pub none_step : None ≡ told → IsHolding ordinals (calls ++ call ∷ []) × AreKept ordinals (calls ++ call ∷ []) kept places
  none_step is = (holding_without ordinals calls call held here later (told_none is), are_kept_without ordinals calls call held here later (told_none is) kept places are)
