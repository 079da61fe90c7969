-- How many nodes there are after a call: one more where the call creates one.
use Rattle.std.proofs.Common.{ℕ, suc, ◌≡◌, List, [], ◌∷◌, ◌++◌, length, Bool, true, false, Option, None, Some, refl, sym, ◌∙◌, ap, arith, length-append}
use Rattle.std.specs.Prelude.{if◌then◌else◌, not, is_some}
use Rattle.script_ast.specs.Operations.{new_name}
use Rattle.script_ast.specs.declared.call_list.Call.{Call}
use Rattle.script_ast.specs.declared.operations.Op.{Op}
use Rattle.script_ast.specs.declared.operations.Op.TheVariants as op
use Rattle.node_table.specs.Nodes.{node_of, node_with_curve}
use Rattle.node_table.specs.declared.nodes.Node.{Node}
use Rattle.node_table.specs.declared.kinds.Kind.TheVariants.{Buffer}
use Rattle.node_table.proofs.Setting.{length-changed}
use Rattle.meaning.specs.Convolvers.{convolver_of}
use Rattle.meaning.specs.declared.world.World.{World}
use Rattle.meaning.specs.declared.change.Edit.{Edit}
use Rattle.meaning.specs.declared.change.Edit.TheVariants as edit
use Rattle.meaning.specs.Changes.{edited, creates, attribute_set}
use Rattle.prune_script.specs.Pruned.{creates_node, is_refusal}
use Rattle.control_side.specs.declared.decide.Decided.{Decided}
use Rattle.control_side.specs.declared.decide.Decided.TheVariants as comes_to
use Rattle.control_side.specs.Machine.{Machine}
use Rattle.control_side.specs.Step.{IsFor, settled, with_edit}
use Rattle.prune_top.proofs.Heard.{is_fine}
use Rattle.prune_top.proofs.Naming.{IsNaming, is_of_buffers}

abbrev makes_node : Edit → Bool
makes_node (edit.Create kind) = true
makes_node (edit.CreateBufferSource rate buffer points) = true
makes_node (edit.CreateConvolver buffer) = true
makes_node other = false

abbrev one_more : Bool → ℕ → ℕ
one_more b n = if b then suc n else n

last_more : (nodes : List Node) (node : Node) → length (nodes ++ node ∷ []) ≡ suc (length nodes)
last_more nodes node = let e = length-append nodes (node ∷ []) in omega (arith, e)

edited_nodes : (w : World) (now : ℕ) (e : Edit) → length (edited w now e).nodes ≡ one_more (makes_node e) (length w.nodes)
edited_nodes w now (edit.Create kind) = last_more w.nodes (node_of kind now)
edited_nodes w now (edit.CreateBufferSource rate buffer points) = last_more w.nodes (node_of (Buffer rate) now)
edited_nodes w now (edit.CreateConvolver buffer) = last_more w.nodes (node_of (convolver_of w.store buffer) now)
edited_nodes w now (edit.Connect edge) = refl
edited_nodes w now (edit.Disconnect from form) = refl
edited_nodes w now (edit.Source node e) = refl
edited_nodes w now (edit.Param id e) = refl
edited_nodes w now (edit.Attribute node e) = length-changed node.0 (attribute_set e) w.nodes
edited_nodes w now (edit.SetCurve node curve) = length-changed node.0 (node_with_curve curve) w.nodes
edited_nodes w now (edit.Buffers e) = refl

made_named : (e : Edit) (nodes : Bool) → creates e ≡ true → is_of_buffers e ≡ not nodes → makes_node e ≡ nodes
made_named (edit.Create kind) true new of = refl
made_named (edit.CreateBufferSource rate buffer points) true new of = refl
made_named (edit.CreateConvolver buffer) true new of = refl
made_named (edit.Create kind) false new of = absurd cc
made_named (edit.CreateBufferSource rate buffer points) false new of = absurd cc
made_named (edit.CreateConvolver buffer) false new of = absurd cc
made_named (edit.Connect edge) nodes new of = absurd cc
made_named (edit.Disconnect from form) nodes new of = absurd cc
made_named (edit.Source node e) nodes new of = absurd cc
made_named (edit.Param id e) nodes new of = absurd cc
made_named (edit.Attribute node e) nodes new of = absurd cc
made_named (edit.SetCurve node curve) nodes new of = absurd cc
made_named (edit.Buffers e) true new of = absurd cc
made_named (edit.Buffers e) false new of = refl

made_unnamed : (e : Edit) → creates e ≡ false → makes_node e ≡ false
made_unnamed (edit.Create kind) new = absurd cc
made_unnamed (edit.CreateBufferSource rate buffer points) new = absurd cc
made_unnamed (edit.CreateConvolver buffer) new = absurd cc
made_unnamed (edit.Connect edge) new = refl
made_unnamed (edit.Disconnect from form) new = refl
made_unnamed (edit.Source node e) new = refl
made_unnamed (edit.Param id e) new = refl
made_unnamed (edit.Attribute node e) new = refl
made_unnamed (edit.SetCurve node curve) new = refl
made_unnamed (edit.Buffers e) new = refl

unnamed_creates : (o : Op) → new_name o ≡ None → creates_node o ≡ false
unnamed_creates (op.CreateBuffer name channels frames rate) none = refl
unnamed_creates (op.DecodeAudioData name path) none = refl
unnamed_creates other none = ap is_some none

module _ (whole : Machine) (call : Call) where
  abbrev Names : Decided → Type 0
  Names d = (name : List ℕ) → new_name call.op ≡ Some name → IsNaming (creates_node call.op) d

  -- what names nothing creates nothing
  stays : (d : Decided) → Names d → ((nodes : Bool) → IsNaming nodes d → ⊥) → length whole.world.nodes ≡ one_more (creates_node call.op) (length whole.world.nodes)
  stays d names never = by_name (new_name call.op) refl
    where
      by_name : (o : Option (List ℕ)) → new_name call.op ≡ o → length whole.world.nodes ≡ one_more (creates_node call.op) (length whole.world.nodes)
      by_name None is = ap (λ b. one_more b (length whole.world.nodes)) (sym (unnamed_creates call.op is))
      by_name (Some name) is = absurd (never (creates_node call.op) (names name is))

  named_nodes : (e : Edit) (o : Option (List ℕ)) → new_name call.op ≡ o → Names (comes_to.Change e) → creates e ≡ is_some o → length (with_edit whole e o).world.nodes ≡ one_more (creates_node call.op) (length whole.world.nodes)
  named_nodes e None is names new =
      edited_nodes whole.world whole.context.time e ∙ ap (λ b. one_more b (length whole.world.nodes)) (made_unnamed e new ∙ sym (unnamed_creates call.op is))
  named_nodes e (Some name) is names new =
      edited_nodes whole.world whole.context.time e ∙ ap (λ b. one_more b (length whole.world.nodes)) (made_named e (creates_node call.op) new (names name is))

  pub settled_nodes : (d : Decided) → Names d → IsFor whole call.op d → is_fine d ≡ true → length (settled whole call d).machine.world.nodes ≡ one_more (creates_node call.op) (length whole.world.nodes)
  settled_nodes (comes_to.Answer said) names fits fine = stays (comes_to.Answer said) names (λ nodes refused. let k : is_refusal said ≡ true = refused in absurd cc)
  settled_nodes comes_to.Start names fits fine = stays comes_to.Start names (λ nodes never. never)
  settled_nodes (comes_to.Suspend frame) names fits fine = stays (comes_to.Suspend frame) names (λ nodes never. never)
  settled_nodes comes_to.Resume names fits fine = stays comes_to.Resume names (λ nodes never. never)
  settled_nodes (comes_to.Change e) names fits fine = named_nodes e (new_name call.op) refl names fits.1
