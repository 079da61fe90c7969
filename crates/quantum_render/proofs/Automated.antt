-- The levels of the parameters are their intrinsic values.
use Rattle.std.proofs.Common.{ℕ, ℤ, pos, ◌≡◌, ◌<◌, ◌≤◌, ◌+◌, ◌⊎◌, length, List, [], ◌∷◌, map, true, false, Some, inl, inr, refl, sym, ◌∙◌, ap, arith, subst}
use Rattle.std.specs.Prelude.{if◌then◌else◌, ◌==◌, ◌&&◌}
use Rattle.std.specs.Option.{option_map_or}
use Rattle.std.proofs.lemmas.List.{get_or_past}
use Rattle.std.proofs.lemmas.Bool.Decides.{nat_tests}
use Rattle.wa_base.specs.Contexts.{quantum_of}
use Rattle.wa_base.specs.declared.graph_names.ParamId.{ParamId}
use Rattle.wa_base.specs.declared.graph_names.ParamName.{ParamName}
use Rattle.wa_base.specs.declared.graph_names.Rate.{Rate}
use Rattle.wa_base.specs.declared.graph_names.Rate.TheVariants.{A, K}
use Rattle.law_base.specs.Members.{IsIn}
use Rattle.conn_graph.specs.Edges.{same_name, same_param}
use Rattle.param_events.specs.Values.{value_at}
use Rattle.meaning.specs.declared.params.Param.{Param}
use Rattle.meaning.specs.declared.world.World.{World}
use Rattle.node_table.specs.Kinds.{param_name}
use Rattle.meaning.specs.World.{sounding, kind_of, param_id, find_param, intrinsic_value, is_k, is_k_rate}
use Rattle.meaning.specs.Validity.{IsValid, param_ids}
use Rattle.meaning.proofs.Automating.{found_param}
use Rattle.meaning.proofs.Sounding.{intrinsic_sounding, k_rate_sounding}
use Rattle.automation.specs.Levels.{LevelView, HasRoom, IsLevelOf, AreLevels, StaysAt, level_at, level_of, no_level, taken_at}
use Rattle.automation.specs.Ready.{AreOfNodes, AutomationView, IsHeld}
use Rattle.quantum_render.proofs.LevelLaws.{taken_at as taken_in}

id_in : (params : List Param) (p : Param) → IsIn p params → IsIn p.id (map (λ (q : Param). q.id) params)
id_in [] p is = absurd is
id_in (q ∷ qs) p (inl same) = inl (ap (λ (x : Param). x.id) same)
id_in (q ∷ qs) p (inr is) = inr (id_in qs p is)

-- the parameters of a valid world are of its nodes
pub of_nodes : (w : World) → IsValid w → AreOfNodes (length w.nodes) w.params.items
of_nodes w valid = record { order = valid.params.order; there = λ p is. valid.params.there p.id (id_in w.params.items p is) }

-- levels that are kept from a frame on are kept from a later one on
pub held_later : (params : List Param) (first later : ℕ) (a : AutomationView) → first ≤ later → IsHeld params first a → IsHeld params later a
held_later params first later a l is = record {
  running = is.running;
  room = is.room;
  others = λ i d low. elim (is.others i d low) [
    | inl runs ↦ inl runs
    | inr keeps ↦ inr (λ even up. keeps even (omega (arith, l, up)))
  ];
  rests = λ r there. let old = is.rests r there in record { level = λ d even up. old.level d even (omega (arith, l, up)); place = λ d even up. old.place d even (omega (arith, l, up)) };
}

-- the parameter that a node's kind has is there
pub has_param : (w : World) → IsValid w → (node : ℕ) (name : ParamName) → node < length w.nodes → param_name (kind_of w node) ≡ Some name → IsIn (param_id node name) (param_ids w)
has_param w valid node name low some = (valid.params.each node name low).1 some

-- what has an identity
with_id : (params : List Param) (id : ParamId) → IsIn id (map (λ (p : Param). p.id) params) → (p : Param) × IsIn p params × (p.id ≡ id)
with_id [] id is = absurd is
with_id (p ∷ ps) id (inl same) = (p, inl refl, sym same)
with_id (p ∷ ps) id (inr is) = let found = with_id ps id is in (found.0, inr found.1, found.2)

same_self : (id : ParamId) → same_param id id ≡ true
same_self id =
    let number : (id.node.0 == id.node.0) ≡ true = grind (arith, nat_tests) in
    let name : (n : ParamName) → same_name n n ≡ true = λ n. grind arith in
    ap (λ b. b && same_name id.name id.name) number ∙ name id.name

taken_by : (rate : Rate) (m : ℕ) → taken_at rate m ≡ (if is_k rate then 0 else m)
taken_by A m = refl
taken_by K m = refl

module _ (w : World) (valid : IsValid w) (first : ℕ) (levels : List LevelView) (are : AreLevels (quantum_of w.spec) w.params.items first levels) (id : ParamId) (there : IsIn id (param_ids w)) where
  found : (p : Param) × IsIn p w.params.items × (p.id ≡ id)
  found = with_id w.params.items id there

  abbrev p : Param
  p = found.0

  abbrev pub level : LevelView
  level = level_of levels id.node.0

  own : IsLevelOf (quantum_of w.spec) p first level
  own = subst (λ (i : ParamId). IsLevelOf (quantum_of w.spec) p first (level_of levels i.node.0)) found.2 (are p found.1)

  is_found : find_param w.params.items id ≡ Some p
  is_found = found_param w valid id p found.1 (subst (λ (i : ParamId). same_param i id ≡ true) (sym found.2) (same_self id))

  pub has_room : HasRoom (quantum_of w.spec) level
  has_room = own.room

  pub level_within : id.node.0 < length levels
  level_within = by_place (levels_long (length levels) refl)
    where
      levels_long : (n : ℕ) → length levels ≡ n → (id.node.0 < n) ⊎ (n ≤ id.node.0)
      levels_long n e = grind arith

      by_place : (id.node.0 < length levels) ⊎ (length levels ≤ id.node.0) → id.node.0 < length levels
      by_place (inl l) = l
      by_place (inr past) =
          let none : level ≡ no_level = get_or_past levels id.node.0 no_level past in
          let room : length level.values ≡ quantum_of w.spec = has_room in
          let empty : length level.values ≡ 0 = ap (λ (v : LevelView). length v.values) none in
          let low = valid.spec.quantum.low in absurd (omega (arith, low, room, empty))

  pub rate_is : is_k_rate (sounding w) id ≡ is_k level.rate
  rate_is = k_rate_sounding w id ∙ ap (λ o. option_map_or (λ (q : Param). is_k q.rate) o false) is_found ∙ ap is_k (sym own.rate)

  pub intrinsic_is : (m : ℕ) → m < quantum_of w.spec → intrinsic_value (sounding w) id (first + taken_in (sounding w) id m) ≡ level_at level m
  intrinsic_is m low =
      intrinsic_sounding w id (first + taken_in (sounding w) id m)
      ∙ ap (λ o. option_map_or (λ (q : Param). value_at q.line.base q.line.events (first + taken_in (sounding w) id m)) o (pos 0)) is_found
      ∙ ap (λ k. value_at p.line.base p.line.events (first + k)) (ap (λ b. if b then 0 else m) (rate_is ∙ ap is_k own.rate) ∙ sym (taken_by p.rate m))
      ∙ sym (own.values m low)

-- a level that stays is the intrinsic value of its parameter
pub level_stays : (w : World) (id : ParamId) (p : Param) → find_param w.params.items id ≡ Some p → (from until : ℕ) (value : ℤ) → StaysAt (quantum_of w.spec) from until p value
    → (first m : ℕ) → from ≤ first → first + quantum_of w.spec ≤ until → m < quantum_of w.spec → intrinsic_value (sounding w) id (first + taken_in (sounding w) id m) ≡ value
level_stays w id p is from until value stays first m low next now =
    let rate : is_k_rate (sounding w) id ≡ is_k p.rate = k_rate_sounding w id ∙ ap (λ o. option_map_or (λ (q : Param). is_k q.rate) o false) is in
    intrinsic_sounding w id (first + taken_in (sounding w) id m)
    ∙ ap (λ o. option_map_or (λ (q : Param). value_at q.line.base q.line.events (first + taken_in (sounding w) id m)) o (pos 0)) is
    ∙ ap (λ k. value_at p.line.base p.line.events (first + k)) (ap (λ b. if b then 0 else m) rate ∙ sym (taken_by p.rate m))
    ∙ stays first m low next now
