-- A constant for one quantum of 128 frames: what the destination's sample at frame 5 rests on.
use Rattle.std.proofs.Common.{neg_ℤ, Some, ℕ, ℤ, pos, ◌≡◌, ◌++◌, List, [], ◌∷◌, map, None, Bool, true, false, inl, inr, refl, sym, ◌∙◌, ap, subst, arith}
use Rattle.std.specs.Prelude.{codes, unsigned_abs, nat_lt, if◌then◌else◌}
use Rattle.std.specs.List.{range_with_len}
use Rattle.std.specs.Fmt.{digits}
use Rattle.wa_base.specs.declared.graph_names.End.{End}
use Rattle.wa_base.specs.declared.graph_names.Interp.TheVariants.{Speakers}
use Rattle.wa_base.specs.declared.graph_names.ParamName.TheVariants as param
use Rattle.law_base.specs.Members.{IsIn}
use Rattle.law_base.specs.Reaching.{reaches}
use Rattle.mix_rules.specs.Mixing.{mix, fan_in}
use Rattle.mix_rules.proofs.Laws.{mix_same}
use Rattle.param_events.specs.Values.{value_at as intrinsic_at}
use Rattle.conn_graph.specs.Ends.{writer_of, reader_of, ends, in_cycle, arrow, height, muted}
use Rattle.meaning.specs.declared.world.World.{World}
use Rattle.meaning.specs.Counts.{count_rule}
use Rattle.meaning.specs.Values.{input_value, computed_value, equation}
use Rattle.meaning.proofs.Rows.{context, constant, to_input, line, started, world}
use Rattle.explain.specs.declared.facts.Key.{Key}
use Rattle.explain.specs.declared.facts.Key.TheVariants.{Count, Inlet, Par, Hist, Out}
use Rattle.explain.specs.declared.facts.Fact.{Fact}
use Rattle.explain.specs.Accounts.{Account, value_in, derived}
use Rattle.explain.specs.Facts.{IsFactOf}
use Rattle.explain.specs.Needs.{needs}
use Rattle.explain.specs.Texts.{key_text, cell_text, fact_text, facts_text}
use Rattle.explain.specs.Checked.{Holds, AllHold, Stands, Follows, IsChecked}

unfoldable pub w : World
w = world 1 (constant (pos 16777216) ∷ []) (to_input 1 0 ∷ []) (line 1 param.Offset (pos 16777216) ∷ []) (started 1 0 ∷ [])

abbrev tape : List World
tape = w ∷ []

abbrev fact : Key → ℕ → Fact
fact key value = record { key = key; value = pos value; cells = None }

abbrev source_count : Fact
source_count = fact (Count 0 (reader_of 1) 0) 1

abbrev own_count : Fact
own_count = fact (Count 0 (reader_of 0) 0) 1

abbrev offset : Fact
offset = fact (Par 5 (record { 0 = 1 }) param.Offset) 16777216

abbrev source : Fact
source = fact (Out 5 (reader_of 1) 0 0) 16777216

abbrev inlet : Fact
inlet = fact (Inlet 5 (reader_of 0) 0 0) 16777216

abbrev sample : Fact
sample = fact (Out 5 (reader_of 0) 0 0) 16777216

-- what a fact says of an account in which it holds
value_of : (a : Account) (x : Fact) → Holds 128 tape a x → value_in 128 tape a x.key ≡ x.value
value_of a x holds = ap (λ (y : Fact). y.value) holds.said

count_of : (a : Account) (e : End) → Holds 128 tape a (fact (Count 0 e 0) 1) → a.counts 0 e ≡ 1
count_of a e holds = ap unsigned_abs (value_of a (fact (Count 0 e 0) 1) holds)

form-source_count : IsFactOf 128 tape source_count
unfolding context constant to_input line started world ends w
form-source_count = record { key = record { quantum = omega arith; place = record { end = inr (inl refl); output = omega arith } }; cells = refl }

form-own_count : IsFactOf 128 tape own_count
unfolding context constant to_input line started world ends w
form-own_count = record { key = record { quantum = omega arith; place = record { end = inl refl; output = omega arith } }; cells = refl }

form-offset : IsFactOf 128 tape offset
unfolding context constant to_input line started world ends w
form-offset = record { key = record { quantum = omega arith; place = (omega arith, refl) }; cells = refl }

form-source : IsFactOf 128 tape source
unfolding context constant to_input line started world ends w
form-source = record { key = record { quantum = omega arith; place = (record { end = inr (inl refl); output = omega arith }, omega arith) }; cells = refl }

form-inlet : IsFactOf 128 tape inlet
unfolding context constant to_input line started world ends w
form-inlet = record { key = record { quantum = omega arith; place = (record { node = omega arith; end = refl; input = omega arith }, omega arith) }; cells = refl }

form-sample : IsFactOf 128 tape sample
unfolding context constant to_input line started world ends w
form-sample = record { key = record { quantum = omega arith; place = (record { end = inl refl; output = omega arith }, omega arith) }; cells = refl }

given-source_count : (a : Account) → derived 128 tape a source_count.key ≡ source_count
unfolding context constant to_input line started world reaches mix intrinsic_at ends in_cycle arrow height muted count_rule input_value computed_value equation w
given-source_count a = refl

given-own_count : (a : Account) → derived 128 tape a own_count.key ≡ own_count
unfolding context constant to_input line started world reaches mix intrinsic_at ends in_cycle arrow height muted count_rule input_value computed_value equation w
given-own_count a = refl

given-offset : (a : Account) → derived 128 tape a offset.key ≡ offset
unfolding context constant to_input line started world reaches mix intrinsic_at ends in_cycle arrow height muted count_rule input_value computed_value equation w
given-offset a = refl

-- a source that has its channel carries its offset
given-source : (a : Account) → Holds 128 tape a source_count → derived 128 tape a source.key ≡ source
unfolding context constant to_input line started world reaches mix intrinsic_at ends in_cycle arrow height muted count_rule input_value computed_value equation w
given-source a one =
    let at : ℕ → Fact = λ channels. record { key = source.key; value = if nat_lt 0 channels then pos 16777216 else pos 0; cells = None } in
    let by_count : derived 128 tape a source.key ≡ at (a.counts 0 (reader_of 1)) = refl in
    by_count ∙ ap at (count_of a (reader_of 1) one)

given-inlet : (a : Account) → Holds 128 tape a source_count → Holds 128 tape a source → derived 128 tape a inlet.key ≡ inlet
unfolding context constant to_input line started world reaches intrinsic_at ends in_cycle arrow height muted count_rule input_value computed_value equation w
given-inlet a one carried =
    let heard : ℤ → Fact = λ value. record { key = inlet.key; value = value; cells = None } in
    let by_mix : derived 128 tape a inlet.key ≡ heard (fan_in (mix Speakers (a.counts 0 (reader_of 1)) 1 (a.values 5 (reader_of 1) 0) 0 ∷ [])) = refl in
    by_mix
    ∙ ap (λ channels. heard (fan_in (mix Speakers channels 1 (a.values 5 (reader_of 1) 0) 0 ∷ []))) (count_of a (reader_of 1) one)
    ∙ ap (λ value. heard (fan_in (value ∷ []))) (mix_same Speakers 1 (a.values 5 (reader_of 1) 0) 0 (omega arith) ∙ value_of a source carried)

given-sample : (a : Account) → Holds 128 tape a own_count → Holds 128 tape a inlet → derived 128 tape a sample.key ≡ sample
unfolding context constant to_input line started world reaches intrinsic_at ends in_cycle arrow height muted count_rule computed_value equation w
given-sample a one heard =
    let at : ℕ → ℤ → Fact = λ channels value. record { key = sample.key; value = if nat_lt 0 channels then value else pos 0; cells = None } in
    let by_count : derived 128 tape a sample.key ≡ at (a.counts 0 (reader_of 0)) (value_in 128 tape a inlet.key) = refl in
    by_count ∙ ap (λ channels. at channels (value_in 128 tape a inlet.key)) (count_of a (reader_of 0) one) ∙ ap (at 1) (value_of a inlet heard)

-- ---- what each needs

needs-source_count : (a : Account) → needs 128 tape a source_count.key ≡ []
unfolding context constant to_input line started world reaches ends in_cycle arrow height muted w needs
needs-source_count a = refl

needs-own_count : (a : Account) → needs 128 tape a own_count.key ≡ source_count.key ∷ []
unfolding context constant to_input line started world reaches ends in_cycle arrow height muted w needs
needs-own_count a = refl

needs-offset : (a : Account) → needs 128 tape a offset.key ≡ []
unfolding context constant to_input line started world reaches ends in_cycle arrow height muted w needs
needs-offset a = refl

needs-source : (a : Account) → Holds 128 tape a source_count → needs 128 tape a source.key ≡ source_count.key ∷ offset.key ∷ []
unfolding context constant to_input line started world reaches ends in_cycle arrow height muted w needs
needs-source a one =
    let at : ℕ → List Key = λ channels. source_count.key ∷ (if nat_lt 0 channels then offset.key ∷ [] else []) in
    let by_count : needs 128 tape a source.key ≡ at (a.counts 0 (reader_of 1)) = refl in
    by_count ∙ ap at (count_of a (reader_of 1) one)

needs-inlet : (a : Account) → Holds 128 tape a source_count → needs 128 tape a inlet.key ≡ source_count.key ∷ source.key ∷ []
unfolding context constant to_input line started world reaches ends in_cycle arrow height muted w needs
needs-inlet a one =
    let at : ℕ → List Key = λ channels. source_count.key ∷ map (λ c. Out 5 (reader_of 1) 0 c) (range_with_len 0 channels) ++ [] in
    let by_count : needs 128 tape a inlet.key ≡ at (a.counts 0 (reader_of 1)) = refl in
    by_count ∙ ap at (count_of a (reader_of 1) one)

needs-sample : (a : Account) → Holds 128 tape a own_count → needs 128 tape a sample.key ≡ own_count.key ∷ inlet.key ∷ []
unfolding context constant to_input line started world reaches ends in_cycle arrow height muted w needs
needs-sample a one =
    let at : ℕ → List Key = λ channels. own_count.key ∷ (if nat_lt 0 channels then inlet.key ∷ [] else []) in
    let by_count : needs 128 tape a sample.key ≡ at (a.counts 0 (reader_of 0)) = refl in
    by_count ∙ ap at (count_of a (reader_of 0) one)

-- ---- the list is checked

-- what is needed stands there, where it is none, one or two keys
none_needed : (before : List Fact) (keys : List Key) → keys ≡ [] → (key : Key) → IsIn key keys → Stands key before
none_needed before keys is key h = absurd (subst (IsIn key) is h)

one_needed : (before : List Fact) (keys : List Key) (x : Key) → keys ≡ x ∷ [] → Stands x before → (key : Key) → IsIn key keys → Stands key before
one_needed before keys x is there key h = elim (subst (IsIn key) is h) [
  | inl same ↦ subst (λ k. Stands k before) (sym same) there
  | inr none ↦ absurd none
]

two_needed : (before : List Fact) (keys : List Key) (x y : Key) → keys ≡ x ∷ y ∷ [] → Stands x before → Stands y before → (key : Key) → IsIn key keys → Stands key before
two_needed before keys x y is first second key h = elim (subst (IsIn key) is h) [
  | inl same ↦ subst (λ k. Stands k before) (sym same) first
  | inr other ↦ one_needed before (y ∷ []) y refl second key other
]

follows-source_count : Follows 128 tape [] source_count
follows-source_count = record { form = form-source_count; needed = λ a all. none_needed [] _ (needs-source_count a); given = λ a all. given-source_count a }

follows-own_count : Follows 128 tape (source_count ∷ []) own_count
follows-own_count = record {
  form = form-own_count;
  needed = λ a all. one_needed (source_count ∷ []) _ source_count.key (needs-own_count a) (source_count, inl refl, refl);
  given = λ a all. given-own_count a;
}

follows-offset : Follows 128 tape (own_count ∷ source_count ∷ []) offset
follows-offset = record { form = form-offset; needed = λ a all. none_needed (own_count ∷ source_count ∷ []) _ (needs-offset a); given = λ a all. given-offset a }

follows-source : Follows 128 tape (offset ∷ own_count ∷ source_count ∷ []) source
follows-source = record {
  form = form-source;
  needed = λ a all. two_needed (offset ∷ own_count ∷ source_count ∷ []) _ source_count.key offset.key (needs-source a (all source_count (inr (inr (inl refl))))) (source_count, inr (inr (inl refl)), refl) (offset, inl refl, refl);
  given = λ a all. given-source a (all source_count (inr (inr (inl refl))));
}

follows-inlet : Follows 128 tape (source ∷ offset ∷ own_count ∷ source_count ∷ []) inlet
follows-inlet = record {
  form = form-inlet;
  needed = λ a all. two_needed (source ∷ offset ∷ own_count ∷ source_count ∷ []) _ source_count.key source.key (needs-inlet a (all source_count (inr (inr (inr (inl refl)))))) (source_count, inr (inr (inr (inl refl))), refl) (source, inl refl, refl);
  given = λ a all. given-inlet a (all source_count (inr (inr (inr (inl refl))))) (all source (inl refl));
}

follows-sample : Follows 128 tape (inlet ∷ source ∷ offset ∷ own_count ∷ source_count ∷ []) sample
follows-sample = record {
  form = form-sample;
  needed = λ a all. two_needed (inlet ∷ source ∷ offset ∷ own_count ∷ source_count ∷ []) _ own_count.key inlet.key (needs-sample a (all own_count (inr (inr (inr (inl refl)))))) (own_count, inr (inr (inr (inl refl))), refl) (inlet, inl refl, refl);
  given = λ a all. given-sample a (all own_count (inr (inr (inr (inl refl))))) (all inlet (inl refl));
}

pub row-checked : IsChecked 128 tape (source_count ∷ own_count ∷ offset ∷ source ∷ inlet ∷ sample ∷ [])
row-checked = (follows-source_count, (follows-own_count, (follows-offset, (follows-source, (follows-inlet, (follows-sample, tt))))))

-- ---- and without its third fact it is not

loud : Account
loud = record { counts = λ j e. 1; values = λ f e o c. pos 16777216 }

loud-source_count : Holds 128 tape loud source_count
unfolding loud
loud-source_count = record { said = refl; given = given-source_count loud }

loud-own_count : Holds 128 tape loud own_count
unfolding loud
loud-own_count = record { said = refl; given = given-own_count loud }

both_hold : AllHold 128 tape loud (own_count ∷ source_count ∷ [])
both_hold x (inl same) = subst (Holds 128 tape loud) (sym same) loud-own_count
both_hold x (inr (inl same)) = subst (Holds 128 tape loud) (sym same) loud-source_count
both_hold x (inr (inr none)) = absurd none

is_par : Key → Bool
is_par (Par f node name) = true
is_par other = false

no_offset : Stands offset.key (own_count ∷ source_count ∷ []) → ⊥
unfolding is_par
no_offset (x, inl same, is) = let e : false ≡ true = ap (λ (y : Fact). is_par y.key) (sym same) ∙ ap is_par is in absurd cc
no_offset (x, inr (inl same), is) = let e : false ≡ true = ap (λ (y : Fact). is_par y.key) (sym same) ∙ ap is_par is in absurd cc
no_offset (x, inr (inr none), is) = absurd none

pub row-not_checked : IsChecked 128 tape (source_count ∷ own_count ∷ source ∷ inlet ∷ sample ∷ []) → ⊥
row-not_checked checked =
    let follows : Follows 128 tape (own_count ∷ source_count ∷ []) source = checked.1.1.0 in
    no_offset (follows.needed loud both_hold offset.key (subst (IsIn offset.key) (sym (needs-source loud loud-source_count)) (inr (inl refl))))

-- ---- its text

row-text : facts_text (source_count ∷ own_count ∷ offset ∷ source ∷ inlet ∷ sample ∷ [])
    ≡ codes "count 0 1 0 = 1\ncount 0 0 0 = 1\npar 5 1 offset = 16777216\nout 5 1 0 0 = 16777216\nin 5 0 0 0 = 16777216\nout 5 0 0 0 = 16777216\n"
unfolding digits key_text cell_text fact_text
row-text = refl

-- a writer, a value below 0, and cells
writer-text : fact_text (record { key = Inlet 7 (writer_of 3) 0 1; value = neg_ℤ (pos 5); cells = None }) ≡ codes "in 7 3w 0 1 = -5"
unfolding digits key_text cell_text fact_text
writer-text = refl

cells-text : fact_text (record { key = Hist 7 (record { 0 = 3 }) 1; value = pos 0; cells = Some (pos 2 ∷ neg_ℤ (pos 3) ∷ []) }) ≡ codes "hist 7 3 1 = 0 2 -3"
unfolding digits key_text cell_text fact_text
cells-text = refl
