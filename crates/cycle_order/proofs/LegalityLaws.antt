-- The test of legal orders.
use Rattle.std.proofs.Common.{◌≡◌, ◌<◌, length, List, [], ◌∷◌, ◌++◌, Bool, true, false, not, ◌&&◌, ◌||◌, inl, inr, refl, sym, ◌∙◌, ap, subst, eq-eqb}
use Rattle.std.specs.Prelude.{◌==◌, ◌↔◌, IsTrue, nat_lt}
use Rattle.std.specs.List.{list_all}
use Rattle.std.proofs.lemmas.Bool.{eqb-true, ltb-true, lt-ltb}
use Rattle.wa_base.specs.declared.graph_names.End.{End}
use Rattle.law_base.specs.Members.{IsIn}
use Rattle.law_base.proofs.Members.{list_any-IsIn, IsIn-list_any, IsIn-append, IsIn-append_first, IsIn-append_second, IsIn-filter, IsIn-filter_from}
use Rattle.law_base.proofs.Tests.{or_first, or_second, or_cases, and_both, and_parts, not_true}
use Rattle.conn_graph.specs.declared.edges.Edge.{Edge}
use Rattle.conn_graph.specs.Edges.{target_node}
use Rattle.conn_graph.specs.Ends.{writer_of, reader_of, same_end, ends, is_delay, arrives_at, in_cycle, arrow, muted}
use Rattle.conn_graph.specs.Graph.{Connections, IsGraph}
use Rattle.conn_graph.specs.Orders.{IsLegalAfter, IsLegalOrder}
use Rattle.conn_graph.proofs.EndLaws.{end_is, has_end, has_writer, same_end-refl, same_end_is, edge_arrow, writer_arrow}
use Rattle.cycle_order.specs.Legality.{has, is_settled, is_end, edges_into, source_settled, writer_settled, can_follow, is_legal_from}
use Rattle.cycle_order.specs.Surveys.{muted_ends}
use Rattle.cycle_order.proofs.EndArrows.{same_parts, arrives_at_node, is_listed}
use Rattle.cycle_order.proofs.Renaming.{same_tests}

-- ---- what a test on all members says

pub all_pass : {X : Type 0} (p : X → Bool) (xs : List X) → list_all p xs ≡ true → (x : X) → IsIn x xs → p x ≡ true
all_pass p [] h x m = absurd m
all_pass p (y ∷ ys) h x (inl e) = ap p e ∙ (and_parts (p y) (list_all p ys) h).0
all_pass p (y ∷ ys) h x (inr m) = all_pass p ys (and_parts (p y) (list_all p ys) h).1 x m

pub from_all : {X : Type 0} (p : X → Bool) (xs : List X) → ((x : X) → IsIn x xs → p x ≡ true) → list_all p xs ≡ true
from_all p [] h = refl
from_all p (y ∷ ys) h = and_both _ _ (h y (inl refl)) (from_all p ys (λ x m. h x (inr m)))

pub same_members : {X : Type 0} (p : X → Bool) (xs ys : List X) → ((x : X) → IsIn x xs → IsIn x ys) → ((x : X) → IsIn x ys → IsIn x xs) → list_all p xs ≡ list_all p ys
same_members p xs ys forth back = same_tests _ _ (λ h. from_all p ys (λ x m. all_pass p xs h x (back x m))) (λ h. from_all p xs (λ x m. all_pass p ys h x (forth x m)))

is_false : (b : Bool) → not b ≡ true → b ≡ false
is_false true h = sym h
is_false false h = refl

pub is_in : (es : List End) (e : End) → has es e ≡ true → IsIn e es
is_in es e h = let k = IsIn-list_any (λ x. same_end x e) es h in subst (λ x. IsIn x es) (same_end_is k.0 e k.2) k.1

pub from_in : (es : List End) (e : End) → IsIn e es → has es e ≡ true
from_in es e m = list_any-IsIn (λ x. same_end x e) es e m (same_end-refl e)

-- an end may come next behind those that are done
pub record Follows (g : Connections) (done : List End) (e : End) : Type 0 where
  pub there : IsIn e (ends g)
  pub unmuted : muted g e ≡ false
  pub fresh : IsIn e done → ⊥
  pub behind : (d : End) → IsIn d (ends g) → muted g d ≡ false → arrow g d e ≡ true → IsIn d done

module _ (g : Connections) (whole : IsGraph g) where
  settled_is : (placed : List End) (e : End) → IsIn e (ends g) → is_settled (muted_ends g) placed e ≡ true → muted g e ≡ false → IsIn e placed
  settled_is placed e in_e h u = elim (or_cases _ _ h) [
    | inl m ↦ let t : true ≡ false = sym m ∙ is_listed g e in_e ∙ u in absurd cc
    | inr m ↦ is_in placed e m
  ]

  from_settled : (placed : List End) (e : End) → IsIn e (ends g) → (muted g e ≡ false → IsIn e placed) → is_settled (muted_ends g) placed e ≡ true
  from_settled placed e in_e h = by_test (muted g e) refl
    where
      by_test : (b : Bool) → muted g e ≡ b → is_settled (muted_ends g) placed e ≡ true
      by_test true m = or_first _ _ (is_listed g e in_e ∙ m)
      by_test false m = or_second _ _ (from_in placed e (h m))

  pub end_there : (e : End) → is_end g e ≡ true → IsIn e (ends g)
  end_there e h =
      let parts = and_parts (nat_lt e.node.0 (length g.nodes)) (not e.writer || is_delay g e.node.0) h in
      by_kind e.writer refl (ltb-true e.node.0 (length g.nodes) parts.0) parts.1
    where
      by_kind : (b : Bool) → e.writer ≡ b → e.node.0 < length g.nodes → (not b || is_delay g e.node.0) ≡ true → IsIn e (ends g)
      by_kind true w l d = subst (λ x. IsIn x (ends g)) (same_parts (writer_of e.node.0) e refl (sym w)) (has_writer g e.node.0 d)
      by_kind false w l d = subst (λ x. IsIn x (ends g)) (same_parts (reader_of e.node.0) e refl (sym w)) (has_end g e.node.0 l)

  from_there : (e : End) → IsIn e (ends g) → is_end g e ≡ true
  from_there e m = and_both _ _ (lt-ltb e.node.0 (length g.nodes) (end_is g e m).0) (by_kind e.writer (end_is g e m).1)
    where
      by_kind : (b : Bool) → (b ≡ true → is_delay g e.node.0 ≡ true) → (not b || is_delay g e.node.0) ≡ true
      by_kind true d = d refl
      by_kind false d = refl

  -- the two kinds of arrows to an end
  settled_behind : (placed : List End) (e : End) → writer_settled g (muted_ends g) placed e ≡ true → list_all (source_settled g (muted_ends g) placed e) (edges_into g e.node.0) ≡ true
      → (d : End) → IsIn d (ends g) → muted g d ≡ false → arrow g d e ≡ true → IsIn d placed
  unfolding arrow
  settled_behind placed e inner outer d in_d u a = elim (or_cases _ _ a) [
    | inl t ↦
        let found : (x : Edge) × IsIn x g.edges × ((same_end (reader_of x.from.0) d && same_end (arrives_at g x.to) e) ≡ true) = IsIn-list_any _ g.edges t in
        let parts = and_parts (same_end (reader_of found.0.from.0) d) (same_end (arrives_at g found.0.to) e) found.2 in
        let node : target_node found.0.to ≡ e.node.0 = sym (arrives_at_node g found.0.to) ∙ ap (λ (x : End). x.node.0) (same_end_is (arrives_at g found.0.to) e parts.1) in
        let into = IsIn-filter_from (λ (x : Edge). target_node x.to == e.node.0) g.edges found.0 found.1 (eq-eqb (target_node found.0.to) e.node.0 node) in
        let test = all_pass (source_settled g (muted_ends g) placed e) (edges_into g e.node.0) outer found.0 into in
        let source = second_passes _ _ parts.1 test in
        settled_is placed d in_d (subst (λ x. is_settled (muted_ends g) placed x ≡ true) (same_end_is (reader_of found.0.from.0) d parts.0) source) u
    | inr t ↦
        let four = and_parts (d.writer && not e.writer && d.node.0 == e.node.0 && is_delay g d.node.0) (not (in_cycle g d.node.0)) t in
        let three = and_parts (d.writer && not e.writer && d.node.0 == e.node.0) (is_delay g d.node.0) four.0 in
        let two = and_parts (d.writer && not e.writer) (d.node.0 == e.node.0) three.0 in
        let one = and_parts d.writer (not e.writer) two.0 in
        let node : d.node.0 ≡ e.node.0 = eqb-true d.node.0 e.node.0 two.1 in
        let delays : is_delay g e.node.0 ≡ true = subst (λ i. is_delay g i ≡ true) node three.1 in
        let free : in_cycle g e.node.0 ≡ false = subst (λ i. in_cycle g i ≡ false) node (is_false _ four.1) in
        let writer = third_passes e.writer (is_delay g e.node.0) (in_cycle g e.node.0) _ (is_false _ one.1) delays free inner in
        settled_is placed d in_d (subst (λ x. is_settled (muted_ends g) placed x ≡ true) (same_parts (writer_of e.node.0) d (sym node) (sym one.0)) writer) u
  ]
    where
      second_passes : (a b : Bool) → a ≡ true → (not a || b) ≡ true → b ≡ true
      second_passes true b t h = h
      second_passes false b t h = absurd cc

      third_passes : (w d c s : Bool) → w ≡ false → d ≡ true → c ≡ false → (w || not (d && not c) || s) ≡ true → s ≡ true
      third_passes false true false s x y z h = h
      third_passes true d c s x y z h = absurd cc
      third_passes false false c s x y z h = absurd cc
      third_passes false true true s x y z h = absurd cc

  inner_settled : (placed : List End) (e : End) → IsIn e (ends g) → ((d : End) → IsIn d (ends g) → muted g d ≡ false → arrow g d e ≡ true → IsIn d placed) → writer_settled g (muted_ends g) placed e ≡ true
  inner_settled placed e in_e behind = by_kinds e.writer (is_delay g e.node.0) (in_cycle g e.node.0) refl refl refl
    where
      by_kinds : (w d c : Bool) → e.writer ≡ w → is_delay g e.node.0 ≡ d → in_cycle g e.node.0 ≡ c → (w || not (d && not c) || is_settled (muted_ends g) placed (writer_of e.node.0)) ≡ true
      by_kinds true d c x y z = refl
      by_kinds false false c x y z = refl
      by_kinds false true true x y z = refl
      by_kinds false true false x y z = from_settled placed (writer_of e.node.0) (has_writer g e.node.0 y) (λ u.
          behind (writer_of e.node.0) (has_writer g e.node.0 y) u (subst (λ r. arrow g (writer_of e.node.0) r ≡ true) (same_parts (reader_of e.node.0) e refl (sym x)) (writer_arrow g e.node.0 y z)))

  outer_settled : (placed : List End) (e : End) → ((d : End) → IsIn d (ends g) → muted g d ≡ false → arrow g d e ≡ true → IsIn d placed)
      → list_all (source_settled g (muted_ends g) placed e) (edges_into g e.node.0) ≡ true
  outer_settled placed e behind = from_all (source_settled g (muted_ends g) placed e) (edges_into g e.node.0) (λ x m.
      let x_in = (IsIn-filter (λ (x : Edge). target_node x.to == e.node.0) g.edges x m).0 in by_test x x_in (same_end (arrives_at g x.to) e) refl)
    where
      by_test : (x : Edge) → IsIn x g.edges → (b : Bool) → same_end (arrives_at g x.to) e ≡ b → (not b || is_settled (muted_ends g) placed (reader_of x.from.0)) ≡ true
      by_test x x_in false t = refl
      by_test x x_in true t =
          let there = has_end g x.from.0 (whole.places x x_in).from in
          from_settled placed (reader_of x.from.0) there (λ u.
          behind (reader_of x.from.0) there u (subst (λ r. arrow g (reader_of x.from.0) r ≡ true) (same_end_is (arrives_at g x.to) e t) (edge_arrow g x x_in)))

  follows : (placed : List End) (e : End) → can_follow g (muted_ends g) placed e ≡ true → Follows g placed e
  follows placed e h =
      let three = and_parts (is_end g e && not (is_settled (muted_ends g) placed e) && writer_settled g (muted_ends g) placed e) (list_all (source_settled g (muted_ends g) placed e) (edges_into g e.node.0)) h in
      let two = and_parts (is_end g e && not (is_settled (muted_ends g) placed e)) (writer_settled g (muted_ends g) placed e) three.0 in
      let one = and_parts (is_end g e) (not (is_settled (muted_ends g) placed e)) two.0 in
      let in_e = end_there e one.0 in
      let open_ = is_false (is_settled (muted_ends g) placed e) one.1 in
      record {
        there = in_e;
        unmuted = not_true (muted g e) (λ m. let s : is_settled (muted_ends g) placed e ≡ true = or_first _ _ (is_listed g e in_e ∙ m) in absurd cc);
        fresh = λ m. let s : is_settled (muted_ends g) placed e ≡ true = or_second _ _ (from_in placed e m) in absurd cc;
        behind = settled_behind placed e two.1 three.1;
      }

  from_follows : (placed : List End) (e : End) → Follows g placed e → can_follow g (muted_ends g) placed e ≡ true
  from_follows placed e f =
      and_both _ _ (and_both _ _ (and_both _ _ (from_there e f.there) (ap not (not_true _ (λ s. f.fresh (settled_is placed e f.there s f.unmuted))))) (inner_settled placed e f.there f.behind)) (outer_settled placed e f.behind)

  legal_after : (placed es done : List End) → ((x : End) → IsIn x placed → IsIn x done) → ((x : End) → IsIn x done → IsIn x placed)
      → is_legal_from g (muted_ends g) placed es ≡ true → IsLegalAfter g done es
  legal_after placed [] done forth back h = λ d in_d u. forth d (settled_is placed d in_d (all_pass (is_settled (muted_ends g) placed) (ends g) h d in_d) u)
  legal_after placed (e ∷ es) done forth back h =
      let parts = and_parts (can_follow g (muted_ends g) placed e) (is_legal_from g (muted_ends g) (placed ++ e ∷ []) es) h in
      let f = follows placed e parts.0 in (
        f.there,
        f.unmuted,
        (λ m. f.fresh (back e m)),
        (λ d in_d u a. forth d (f.behind d in_d u a)),
        legal_after (placed ++ e ∷ []) es (e ∷ done)
            (λ x m. elim (IsIn-append placed (e ∷ []) x m) [ inl k ↦ inr (forth x k) | inr k ↦ elim k [ inl same ↦ inl same | inr k ↦ absurd k ] ])
            (λ x m. elim m [ inl same ↦ IsIn-append_second placed (e ∷ []) x (inl same) | inr k ↦ IsIn-append_first placed (e ∷ []) x (back x k) ])
            parts.1,
      )

  from_legal : (placed es done : List End) → ((x : End) → IsIn x placed → IsIn x done) → ((x : End) → IsIn x done → IsIn x placed)
      → IsLegalAfter g done es → is_legal_from g (muted_ends g) placed es ≡ true
  from_legal placed [] done forth back h = from_all (is_settled (muted_ends g) placed) (ends g) (λ d in_d. from_settled placed d in_d (λ u. back d (h d in_d u)))
  from_legal placed (e ∷ es) done forth back h = and_both _ _
      (from_follows placed e (record { there = h.0; unmuted = h.1; fresh = λ m. h.2 (forth e m); behind = λ d in_d u a. back d (h.3 d in_d u a) }))
      (from_legal (placed ++ e ∷ []) es (e ∷ done)
      (λ x m. elim (IsIn-append placed (e ∷ []) x m) [ inl k ↦ inr (forth x k) | inr k ↦ elim k [ inl same ↦ inl same | inr k ↦ absurd k ] ])
      (λ x m. elim m [ inl same ↦ IsIn-append_second placed (e ∷ []) x (inl same) | inr k ↦ IsIn-append_first placed (e ∷ []) x (back x k) ])
      h.4)

  pub legal_test : (es : List End) (b : Bool) → b ≡ is_legal_from g (muted_ends g) [] es → IsTrue b ↔ IsLegalOrder g es
  legal_test es b e = (λ t. legal_after [] es [] (λ x m. m) (λ x m. m) (sym e ∙ t), λ h. e ∙ from_legal [] es [] (λ x m. m) (λ x m. m) h)
