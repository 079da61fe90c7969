-- A machine of the whole session and one of the pruned script's: what they have in common, and what names stand for in both.
use Rattle.std.proofs.Common.{ℕ, ◌≡◌, List, [], ◌∷◌, Bool, true, false, Option, None, Some, ◌⊎◌, inl, inr, refl, sym, ◌∙◌, ap, subst}
use Rattle.std.specs.Prelude.{not, ◌||◌}
use Rattle.std.specs.List.{list_any, filter_map}
use Rattle.wa_base.specs.declared.graph_names.BufId.{BufId}
use Rattle.wa_base.specs.declared.graph_names.NodeId.{NodeId}
use Rattle.name_book.specs.Book.{object_of}
use Rattle.name_book.specs.declared.book.Object.{Object}
use Rattle.name_book.specs.declared.book.Object.TheVariants as object
use Rattle.script_ast.specs.declared.call_list.Call.{Call}
use Rattle.prune_script.specs.Pruned.{node_named as creator_named}
use Rattle.control_side.specs.Machine.{Machine}
use Rattle.control_side.specs.Steady.{IsSteady}
use Rattle.control_side.specs.Deciding.{node_bound, node_named, buffer_bound, buffer_named}
use Rattle.prune.proofs.Flags.{Flags, is_kept}
use Rattle.prune.proofs.Without.{IsWithout, part_node}
use Rattle.prune_top.proofs.Contexts.{part_context}

module _ (fs : Flags) (live : ℕ → Bool) (place : ℕ → ℕ) where
  -- where a name stands for a kept node in the whole, or for a buffer, it does in the part
  abbrev pub IsSameObject : Option Object → Option Object → Type 0
  IsSameObject None other = Unit {0}
  IsSameObject (Some (object.Node node)) other = is_kept fs node.0 ≡ true → other ≡ Some (object.Node (part_node fs node))
  IsSameObject (Some (object.Buffer buffer)) other = other ≡ Some (object.Buffer buffer)

  -- the calls tell by which one a node was created, and whether that is kept
  abbrev pub IsTold : Option Object → Option ℕ → Type 0
  IsTold None creator = Unit {0}
  IsTold (Some (object.Node node)) creator = (c : ℕ) × (creator ≡ Some c) × (is_kept fs node.0 ≡ live c)
  IsTold (Some (object.Buffer buffer)) creator = Unit {0}

  -- The part is the whole without the nodes that are not kept, after these accepted calls, the newest first.
  pub record AreAlike (earlier : List Call) (whole part : Machine) : Type 0 where
    pub world : IsWithout fs part.world whole.world
    pub names : (name : List ℕ) → IsSameObject (object_of whole.bindings name) (object_of part.bindings name)
    pub told : (name : List ℕ) → IsTold (object_of whole.bindings name) (creator_named earlier name)
    pub context : part.context ≡ part_context place whole.context
    pub steady : IsSteady whole

  module _ (earlier : List Call) (whole part : Machine) (alike : AreAlike earlier whole part) where
    pub same_time : part.context.time ≡ whole.context.time
    same_time = ap (λ c. c.time) alike.context

    -- ---- what names stand for

    node_of_object : (o other : Option Object) (n : NodeId) → IsSameObject o other → node_bound o ≡ Some n → is_kept fs n.0 ≡ true → node_bound other ≡ Some (part_node fs n)
    node_of_object None other n same is kept = absurd cc
    node_of_object (Some (object.Node node)) other n same is kept =
        let e : node ≡ n = cc in
        ap node_bound (same (subst (λ (m : NodeId). is_kept fs m.0 ≡ true) (sym e) kept)) ∙ ap (λ m. Some (part_node fs m)) e
    node_of_object (Some (object.Buffer buffer)) other n same is kept = absurd cc

    pub node_heard : (name : List ℕ) (n : NodeId) → node_named whole name ≡ Some n → is_kept fs n.0 ≡ true → node_named part name ≡ Some (part_node fs n)
    node_heard name n is kept = node_of_object (object_of whole.bindings name) (object_of part.bindings name) n (alike.names name) is kept

    buffer_of_object : (o other : Option Object) (b : BufId) → IsSameObject o other → buffer_bound o ≡ Some b → buffer_bound other ≡ Some b
    buffer_of_object None other b same is = absurd cc
    buffer_of_object (Some (object.Node node)) other b same is = absurd cc
    buffer_of_object (Some (object.Buffer buffer)) other b same is = ap buffer_bound same ∙ is

    pub buffer_heard : (name : List ℕ) (b : BufId) → buffer_named whole name ≡ Some b → buffer_named part name ≡ Some b
    buffer_heard name b is = buffer_of_object (object_of whole.bindings name) (object_of part.bindings name) b (alike.names name) is

    told_of_object : (o : Option Object) (creator : Option ℕ) (n : NodeId) → IsTold o creator → node_bound o ≡ Some n → (c : ℕ) × (creator ≡ Some c) × (is_kept fs n.0 ≡ live c)
    told_of_object None creator n told is = absurd cc
    told_of_object (Some (object.Node node)) creator n told is =
        let e : node ≡ n = cc in (told.0, told.1, ap (λ (m : NodeId). is_kept fs m.0) (sym e) ∙ told.2)
    told_of_object (Some (object.Buffer buffer)) creator n told is = absurd cc

    node_told : (name : List ℕ) (n : NodeId) → node_named whole name ≡ Some n → (c : ℕ) × (creator_named earlier name ≡ Some c) × (is_kept fs n.0 ≡ live c)
    node_told name n is = told_of_object (object_of whole.bindings name) (creator_named earlier name) n (alike.told name) is

    -- ---- whether the nodes that are named are live

    -- whether one of them is not
    abbrev pub names_dead : List (List ℕ) → Bool
    names_dead names = list_any (λ node. not (live node)) (filter_map (creator_named earlier) names)

    first_named : (name : List ℕ) (names : List (List ℕ)) (c : ℕ) → creator_named earlier name ≡ Some c → names_dead (name ∷ names) ≡ (not (live c) || names_dead names)
    first_named name names c is = rw is refl

    by_first : (b rest : Bool) → (not b || rest) ≡ false → (b ≡ true) × (rest ≡ false)
    by_first true rest e = (refl, e)
    by_first false rest e = absurd cc

    pub live_first : (name : List ℕ) (names : List (List ℕ)) (n : NodeId) → names_dead (name ∷ names) ≡ false → node_named whole name ≡ Some n → (is_kept fs n.0 ≡ true) × (names_dead names ≡ false)
    live_first name names n none is =
        let told = node_told name n is in
        let both = by_first (live told.0) (names_dead names) (sym (first_named name names told.0 told.1) ∙ none) in
        (told.2 ∙ both.0, both.1)

    by_dead : (b rest : Bool) → (not b || rest) ≡ true → (b ≡ false) ⊎ (rest ≡ true)
    by_dead true rest e = inr e
    by_dead false rest e = inl refl

    pub dead_first : (name : List ℕ) (names : List (List ℕ)) (n : NodeId) → names_dead (name ∷ names) ≡ true → node_named whole name ≡ Some n → (is_kept fs n.0 ≡ false) ⊎ (names_dead names ≡ true)
    dead_first name names n some is =
        let told = node_told name n is in
        elim (by_dead (live told.0) (names_dead names) (sym (first_named name names told.0 told.1) ∙ some)) [ inl e ↦ inl (told.2 ∙ e) | inr e ↦ inr e ]

    pub dead_one : (name : List ℕ) (n : NodeId) → names_dead (name ∷ []) ≡ true → node_named whole name ≡ Some n → is_kept fs n.0 ≡ false
    dead_one name n some is = elim (dead_first name [] n some is) [ inl e ↦ e | inr e ↦ absurd cc ]

    pub creators_of_two : (a b : List ℕ) (n m : NodeId) → node_named whole a ≡ Some n → node_named whole b ≡ Some m
        → (c d : ℕ) × (filter_map (creator_named earlier) (a ∷ b ∷ []) ≡ c ∷ d ∷ []) × (is_kept fs n.0 ≡ live c) × (is_kept fs m.0 ≡ live d)
    creators_of_two a b n m is_a is_b =
        let first = node_told a n is_a in
        let second = node_told b m is_b in
        (first.0, second.0, rw (first.1, second.1) refl, first.2, second.2)
