-- How many nodes and buffers a world has after an edit.
use Rattle.std.proofs.Common.{ℕ, zero, suc, ◌≡◌, ◌+◌, length, List, [], ◌∷◌, ◌++◌, Option, Some, None, refl, ◌∙◌, ap, arith}
use Rattle.std.proofs.lemmas.List.{length-append}
use Rattle.wa_base.specs.declared.graph_names.BufId.{BufId}
use Rattle.buffer_store.specs.declared.buffers.Buffer.{Buffer as AudioBuffer}
use Rattle.buffer_store.specs.Buffers.{silence, recorded, with_written, changed_at}
use Rattle.node_table.specs.Nodes.{node_of, node_with_curve}
use Rattle.node_table.specs.declared.kinds.Kind.TheVariants.{Buffer}
use Rattle.node_table.specs.declared.nodes.Node.{Node}
use Rattle.node_table.proofs.Setting.{length-changed}
use Rattle.meaning.specs.declared.buffers.BufferEdit.{BufferEdit}
use Rattle.meaning.specs.declared.buffers.BufferEdit.TheVariants as buffer_edit
use Rattle.meaning.specs.declared.change.Edit.{Edit}
use Rattle.meaning.specs.declared.change.Edit.TheVariants as edit
use Rattle.meaning.specs.declared.scheds.Play.{Play}
use Rattle.meaning.specs.declared.sources.SourceEdit.{SourceEdit}
use Rattle.meaning.specs.declared.world.World.{World}
use Rattle.meaning.specs.Changes.{edited, attribute_set}
use Rattle.meaning.specs.Convolvers.{convolver_of}
use Rattle.meaning.specs.Plays.{frozen_in, acquires, acquired}
use Rattle.meaning.specs.Sources.{buffers_edited}
use Rattle.meaning.specs.World.{find_play}

-- how many nodes, and how many buffers, an edit makes
abbrev pub made_nodes : Edit → ℕ
made_nodes (edit.Create kind) = 1
made_nodes (edit.CreateBufferSource rate buffer points) = 1
made_nodes (edit.CreateConvolver buffer) = 1
made_nodes (edit.Connect edge) = 0
made_nodes (edit.Disconnect from form) = 0
made_nodes (edit.Source node e) = 0
made_nodes (edit.Param id e) = 0
made_nodes (edit.Attribute node e) = 0
made_nodes (edit.SetCurve node curve) = 0
made_nodes (edit.Buffers e) = 0

abbrev pub buffers_of_edit : BufferEdit → ℕ
buffers_of_edit (buffer_edit.Create channels frames rate) = 1
buffers_of_edit (buffer_edit.Adopt wav) = 1
buffers_of_edit (buffer_edit.Write buffer channel samples first) = 0

abbrev pub made_buffers : Edit → ℕ
made_buffers (edit.Create kind) = 0
made_buffers (edit.CreateBufferSource rate buffer points) = 0
made_buffers (edit.CreateConvolver buffer) = 0
made_buffers (edit.Connect edge) = 0
made_buffers (edit.Disconnect from form) = 0
made_buffers (edit.Source node e) = 0
made_buffers (edit.Param id e) = 0
made_buffers (edit.Attribute node e) = 0
made_buffers (edit.SetCurve node curve) = 0
made_buffers (edit.Buffers e) = buffers_of_edit e

-- ---- nodes

same : (n : ℕ) → n ≡ n + 0
same n = omega arith

one_more : (w : World) (n : Node) → length (w.nodes ++ n ∷ []) ≡ length w.nodes + 1
one_more w n = length-append w.nodes (n ∷ [])

pub nodes_after : (w : World) (now : ℕ) (e : Edit) → length (edited w now e).nodes ≡ length w.nodes + made_nodes e
nodes_after w now (edit.Create kind) = one_more w (node_of kind now)
nodes_after w now (edit.CreateBufferSource rate buffer points) = one_more w (node_of (Buffer rate) now)
nodes_after w now (edit.CreateConvolver buffer) = one_more w (node_of (convolver_of w.store buffer) now)
nodes_after w now (edit.Connect edge) = same (length w.nodes)
nodes_after w now (edit.Disconnect from form) = same (length w.nodes)
nodes_after w now (edit.Source node e) = same (length w.nodes)
nodes_after w now (edit.Param id e) = same (length w.nodes)
nodes_after w now (edit.Attribute node e) = length-changed node.0 (attribute_set e) w.nodes ∙ same (length w.nodes)
nodes_after w now (edit.SetCurve node curve) = length-changed node.0 (node_with_curve curve) w.nodes ∙ same (length w.nodes)
nodes_after w now (edit.Buffers e) = same (length w.nodes)

-- ---- buffers

as_many_changed : (i : ℕ) (change : AudioBuffer → AudioBuffer) (bs : List AudioBuffer) → length (changed_at i change bs) ≡ length bs
as_many_changed i change [] = refl
as_many_changed zero change (b ∷ bs) = refl
as_many_changed (suc i) change (b ∷ bs) = ap suc (as_many_changed i change bs)

as_many_frozen : (bs : List AudioBuffer) (buffer : Option BufId) → length (frozen_in bs buffer) ≡ length bs
as_many_frozen bs None = refl
as_many_frozen bs (Some b) = as_many_changed b.0 _ bs

as_many_acquired : (bs : List AudioBuffer) (e : SourceEdit) (o : Option Play) → length (acquired bs e o) ≡ length bs
as_many_acquired bs e None = refl
as_many_acquired bs e (Some p) = as_many_frozen bs (acquires e p)

more_buffers : (bs : List AudioBuffer) (e : BufferEdit) → length (buffers_edited bs e) ≡ length bs + buffers_of_edit e
more_buffers bs (buffer_edit.Create channels frames rate) = length-append bs (silence channels frames rate ∷ [])
more_buffers bs (buffer_edit.Adopt wav) = length-append bs (recorded wav ∷ [])
more_buffers bs (buffer_edit.Write buffer channel samples first) = as_many_changed buffer.0 (with_written channel samples first) bs ∙ same (length bs)

pub buffers_after : (w : World) (now : ℕ) (e : Edit) → length (edited w now e).store ≡ length w.store + made_buffers e
buffers_after w now (edit.Create kind) = same (length w.store)
buffers_after w now (edit.CreateBufferSource rate buffer points) = same (length w.store)
buffers_after w now (edit.CreateConvolver buffer) = as_many_frozen w.store buffer ∙ same (length w.store)
buffers_after w now (edit.Connect edge) = same (length w.store)
buffers_after w now (edit.Disconnect from form) = same (length w.store)
buffers_after w now (edit.Source node e) = as_many_acquired w.store e (find_play w.scheds.items node.0) ∙ same (length w.store)
buffers_after w now (edit.Param id e) = same (length w.store)
buffers_after w now (edit.Attribute node e) = same (length w.store)
buffers_after w now (edit.SetCurve node curve) = same (length w.store)
buffers_after w now (edit.Buffers e) = more_buffers w.store e
