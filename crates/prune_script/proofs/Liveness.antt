-- Which nodes are live: from them the destination is reached.
use Rattle.std.proofs.Common.{ℕ, zero, suc, ◌≡◌, List, [], ◌∷◌, map, length, Bool, true, false, ◌&&◌, Some, None, inl, inr, refl, sym, ◌∙◌, ap, ap₂, subst, arith}
use mathlib.Core.Path.{fun_ext}
use Rattle.std.specs.Prelude.{if◌then◌else◌, ◌==◌}
use Rattle.std.specs.List.{cons_option}
use Rattle.std.proofs.lemmas.Bool.Decides.{nat_tests}
use Rattle.std.proofs.lemmas.List.{length-map}
use Rattle.law_base.specs.Members.{IsIn}
use Rattle.law_base.specs.Reaching.{reaches}
use Rattle.law_base.proofs.Members.{list_any-IsIn, IsIn-list_any}
use Rattle.law_base.proofs.Reaching.{direct, further, first_arrow, enough, no_way}
use Rattle.law_base.proofs.Tests.{or_second, or_cases, and_both, and_parts, not_true}
use Rattle.prune_script.specs.Pruned.{are_connected, is_live}
use Rattle.prune_script.specs.Live.{sources_to, sources_at, IsLed, there, further as led_further, is_marked, AreLed}

equal : (a b : ℕ) → (a == b) ≡ true → a ≡ b
equal a b e = grind (arith, nat_tests)

itself : (a : ℕ) → (a == a) ≡ true
itself a = grind (arith, nat_tests)

abbrev from_first : ℕ × ℕ → ℕ
from_first c = c.0

module _ (made : List (ℕ × ℕ)) where
  -- an arrow is a connection
  connected : (from to : ℕ) → IsIn (from, to) made → are_connected made from to ≡ true
  connected from to is_in = list_any-IsIn (λ c. c.0 == from && c.1 == to) made (from, to) is_in (and_both _ _ (itself from) (itself to))

  pub connection : (from to : ℕ) → are_connected made from to ≡ true → IsIn (from, to) made
  connection from to are =
      let found = IsIn-list_any (λ c. c.0 == from && c.1 == to) made are in
      let parts = and_parts (found.0.0 == from) (found.0.1 == to) found.2 in
      subst (λ (c : ℕ × ℕ). IsIn c made) (ap₂ (λ a b. (a, b)) (equal found.0.0 from parts.0) (equal found.0.1 to parts.1)) found.1

  first_in : (cs : List (ℕ × ℕ)) (from to : ℕ) → IsIn (from, to) cs → IsIn from (map from_first cs)
  first_in [] from to h = absurd h
  first_in (c ∷ cs) from to (inl e) = inl (ap from_first e)
  first_in (c ∷ cs) from to (inr h) = inr (first_in cs from to h)

  -- a node is live that was connected to a live one
  pub live_source : (from to : ℕ) → IsIn (from, to) made → is_live made to ≡ true → is_live made from ≡ true
  live_source from to is_in live = or_second (from == 0) _ (subst (λ k. reaches (are_connected made) (map from_first made) k from 0 ≡ true) (length-map made from_first) led)
    where
      start : IsIn from (map from_first made)
      start = first_in made from to is_in

      arrow : are_connected made from to ≡ true
      arrow = connected from to is_in

      led : reaches (are_connected made) (map from_first made) (length (map from_first made)) from 0 ≡ true
      led = elim (or_cases (to == 0) _ live) [
        | inl last ↦ enough (are_connected made) (map from_first made) 1 from 0 start
            (direct (are_connected made) (map from_first made) 0 from 0 (subst (λ k. are_connected made from k ≡ true) (equal to 0 last) arrow))
        | inr rest ↦ enough (are_connected made) (map from_first made) (suc (length made)) from 0 start (joined rest)
      ]
        where
          joined : reaches (are_connected made) (map from_first made) (length made) to 0 ≡ true → reaches (are_connected made) (map from_first made) (suc (length made)) from 0 ≡ true
          joined rest = further (are_connected made) (map from_first made) (length made) from to 0 (start_of to (length made) rest) arrow rest
            where
              start_of : (a n : ℕ) → reaches (are_connected made) (map from_first made) n a 0 ≡ true → IsIn a (map from_first made)
              start_of a zero r = absurd (no_way (are_connected made) (map from_first made) a 0 r)
              start_of a (suc n) r = elim (first_arrow (are_connected made) (map from_first made) n a 0 r) [
                | inl h ↦ first_in made a 0 (connection a 0 h)
                | inr (c, in_c, h, more) ↦ first_in made a c (connection a c h)
              ]

  -- the sources of connections
  pub source_in : (cs : List (ℕ × ℕ)) (from to : ℕ) → IsIn (from, to) cs → IsIn from (sources_to to cs)
  source_in [] from to h = absurd h
  source_in (c ∷ cs) from to h = by_test (c.1 == to) refl h (λ k. source_in cs from to k)
    where
      by_test : (b : Bool) → (c.1 == to) ≡ b → IsIn (from, to) (c ∷ cs) → (IsIn (from, to) cs → IsIn from (sources_to to cs)) → IsIn from (cons_option (if b then Some c.0 else None) (sources_to to cs))
      by_test true is (inl e) rest = inl (ap from_first e)
      by_test true is (inr k) rest = inr (rest k)
      by_test false is (inl e) rest = let same : to ≡ c.1 = ap (λ (p : ℕ × ℕ). p.1) e in let t : (c.1 == to) ≡ true = subst (λ k. (c.1 == k) ≡ true) (sym same) (itself c.1) in let f : true ≡ false = sym t ∙ is in cc
      by_test false is (inr k) rest = rest k

  pub in_sources : (cs : List (ℕ × ℕ)) (from to : ℕ) → IsIn from (sources_to to cs) → IsIn (from, to) cs
  in_sources [] from to h = absurd h
  in_sources (c ∷ cs) from to h = by_test (c.1 == to) refl h (λ k. in_sources cs from to k)
    where
      by_test : (b : Bool) → (c.1 == to) ≡ b → IsIn from (cons_option (if b then Some c.0 else None) (sources_to to cs)) → (IsIn from (sources_to to cs) → IsIn (from, to) cs) → IsIn (from, to) (c ∷ cs)
      by_test true is (inl e) rest = inl (ap₂ (λ a b. (a, b)) e (sym (equal c.1 to is)))
      by_test true is (inr k) rest = inr (rest k)
      by_test false is k rest = inr (rest k)

  module _ (sources : List (List ℕ)) (each : (node : ℕ) → sources_at sources node ≡ sources_to node made) where
    live_from_led : (node : ℕ) → IsLed sources node → is_live made node ≡ true
    live_from_led node there = refl
    live_from_led node (led_further next source led is_in) = live_source source next (in_sources made source next (subst (λ xs. IsIn source xs) (each next) is_in)) (live_from_led next led)

    marked_from_reaching : (marks : List Bool) → AreLed sources marks → (n node : ℕ) → reaches (are_connected made) (map from_first made) n node 0 ≡ true → is_marked marks node ≡ true
    marked_from_reaching marks are zero node r = absurd (no_way (are_connected made) (map from_first made) node 0 r)
    marked_from_reaching marks are (suc n) node r = elim (first_arrow (are_connected made) (map from_first made) n node 0 r) [
      | inl h ↦ are.closed 0 node are.there (subst (λ xs. IsIn node xs) (sym (each 0)) (source_in made node 0 (connection node 0 h)))
      | inr (c, in_c, h, more) ↦ are.closed c node (marked_from_reaching marks are n c more) (subst (λ xs. IsIn node xs) (sym (each c)) (source_in made node c (connection node c h)))
    ]

    marked_from_live : (marks : List Bool) → AreLed sources marks → (node : ℕ) → is_live made node ≡ true → is_marked marks node ≡ true
    marked_from_live marks are node live = elim (or_cases (node == 0) _ live) [
      | inl first ↦ subst (λ k. is_marked marks k ≡ true) (sym (equal node 0 first)) are.there
      | inr r ↦ marked_from_reaching marks are (length made) node r
    ]

    -- the marks tell which nodes are live
    pub marks_are : (marks : List Bool) → AreLed sources marks → is_marked marks ≡ is_live made
    marks_are marks are = fun_ext (λ node. by_test node (is_marked marks node) refl)
      where
        by_test : (node : ℕ) (b : Bool) → is_marked marks node ≡ b → b ≡ is_live made node
        by_test node true is = sym (live_from_led node (are.led node is))
        by_test node false is = sym (not_true (is_live made node) (λ live. let t = marked_from_live marks are node live in let f : true ≡ false = sym t ∙ is in cc))
