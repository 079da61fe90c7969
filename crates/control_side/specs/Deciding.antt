-- The objects that names stand for, and edits that a world may refuse.
use Rattle.std.specs.Prelude.{ℕ, List, Option, Some, None, Result, Ok, Err}
use Rattle.wa_base.specs.declared.exceptions.Exc.{Exc}
use Rattle.wa_base.specs.declared.exceptions.Exc.TheVariants.{WrongType}
use Rattle.wa_base.specs.declared.graph_names.BufId.{BufId}
use Rattle.wa_base.specs.declared.graph_names.NodeId.{NodeId}
use Rattle.transcript.specs.declared.lines.Answer.TheVariants as answer
use Rattle.name_book.specs.declared.book.Object.{Object}
use Rattle.name_book.specs.declared.book.Object.TheVariants as object
use Rattle.name_book.specs.Book.{object_of}
use Rattle.meaning.specs.declared.change.Edit.{Edit}
use Rattle.meaning.specs.declared.change.Edit.TheVariants as edit
use Rattle.meaning.specs.declared.sources.SourceEdit.TheVariants as source
use Rattle.meaning.specs.Changes.{refusal}
use Rattle.control_side.specs.declared.decide.Decided.{Decided}
use Rattle.control_side.specs.declared.decide.Decided.TheVariants as comes_to
use Rattle.control_side.specs.Machine.{Machine}

-- ---- the objects that names stand for

abbrev pub node_bound : Option Object → Option NodeId
node_bound None = None
node_bound (Some (object.Node node)) = Some node
node_bound (Some (object.Buffer buffer)) = None

-- the node that a name is bound to
abbrev pub node_named : Machine → List ℕ → Option NodeId
node_named machine name = node_bound (object_of machine.bindings name)

abbrev pub buffer_bound : Option Object → Option BufId
buffer_bound None = None
buffer_bound (Some (object.Node node)) = None
buffer_bound (Some (object.Buffer buffer)) = Some buffer

-- the buffer that a name is bound to
abbrev pub buffer_named : Machine → List ℕ → Option BufId
buffer_named machine name = buffer_bound (object_of machine.bindings name)

-- ---- what an operation comes to

-- it is refused
abbrev pub refused : Exc → Decided
refused exception = comes_to.Answer (answer.Throw exception)

-- it goes by what is found, or is refused for the reason why nothing is
abbrev pub by_found : {A : Type 0} → Result A Exc → (A → Decided) → Decided
by_found (Ok found) what = what found
by_found (Err exception) what = refused exception

abbrev pub unless : Option Exc → Edit → Decided
unless None change = comes_to.Change change
unless (Some exception) change = refused exception

-- it edits the world, unless the world refuses the edit
abbrev pub edits : Machine → Edit → Decided
edits machine change = unless (refusal machine.world machine.context.time change) change

-- it edits what a name stands for, which is to be a node
abbrev pub edits_node : Machine → Option NodeId → (NodeId → Edit) → Decided
edits_node machine None change = refused WrongType
edits_node machine (Some node) change = edits machine (change node)

-- two names are to stand for nodes
abbrev pub edits_nodes : Machine → Option NodeId → Option NodeId → (NodeId → NodeId → Edit) → Decided
edits_nodes machine None to change = refused WrongType
edits_nodes machine (Some from) to change = edits_node machine to (change from)

-- it goes by what a name stands for, which is to be a buffer
abbrev pub by_buffer : Option BufId → (BufId → Decided) → Decided
by_buffer None what = refused WrongType
by_buffer (Some buffer) what = what buffer

-- it edits that buffer
abbrev pub edits_buffer : Machine → Option BufId → (BufId → Edit) → Decided
edits_buffer machine buffer change = by_buffer buffer (λ found. edits machine (change found))

-- it goes by a buffer, or by none: where a name is given, that is to stand for one
abbrev pub with_buffer : Machine → Option (List ℕ) → (Option BufId → Decided) → Decided
with_buffer machine None what = what None
with_buffer machine (Some name) what = by_buffer (buffer_named machine name) (λ buffer. what (Some buffer))

-- it edits the world with it
abbrev pub edits_with_buffer : Machine → Option (List ℕ) → (Option BufId → Edit) → Decided
edits_with_buffer machine name change = with_buffer machine name (λ buffer. edits machine (change buffer))

-- the buffer of a source is set
abbrev pub sets_buffer : Machine → Option NodeId → Option (List ℕ) → Decided
sets_buffer machine None name = refused WrongType
sets_buffer machine (Some node) name = edits_with_buffer machine name (λ buffer. edit.Source node (source.SetBuffer buffer))
