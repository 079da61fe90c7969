-- How many channels the end of a node has, by the row of its kind.
use Rattle.std.proofs.Common.{ℕ, ◌≡◌, ◌⊎◌, inl, inr, Bool, true, false, refl, sym, ◌∙◌, ap}
use Rattle.std.specs.Prelude.{if◌then◌else◌, ◌&&◌, not}
use Rattle.wa_base.specs.declared.graph_names.End.{End}
use Rattle.node_table.specs.declared.kinds.Kind.{Kind}
use Rattle.node_table.specs.declared.rows.Row.{Row}
use Rattle.node_table.specs.declared.rows.Channels.{Channels}
use Rattle.node_table.specs.Kinds.{row, is_delay_kind}
use Rattle.meaning.specs.declared.world.World.{World}
use Rattle.meaning.specs.World.{kind_of}
use Rattle.meaning.specs.Counts.{Counts, reader_channels, output_channels, count_by_kind}

-- the row of a node's kind is that of its node
pub own_row : (w : World) (n : ℕ) (kind : Kind) (r : Row) → kind_of w n ≡ kind → r ≡ row kind → row (kind_of w n) ≡ r
own_row w n kind r is own = ap row is ∙ sym own

-- an end that is no reader of a delay has them as its row says
pub counted_by_row : (q : ℕ) (w w' : World) (j : ℕ) (earlier : ℕ → Counts) (now : Counts) (e : End) (c : Channels) → (row (kind_of w' e.node.0)).channels ≡ c
    → (not e.writer ≡ false) ⊎ (is_delay_kind (kind_of w' e.node.0) ≡ false) → output_channels q w j now c e.node.0 ≡ count_by_kind q w j earlier now (kind_of w' e.node.0) e
counted_by_row q w w' j earlier now e c is plain =
    sym (ap (λ x. output_channels q w j now x e.node.0) is)
    ∙ sym (ap (λ b. if b then reader_channels q w j earlier now e.node.0 else output_channels q w j now (row (kind_of w' e.node.0)).channels e.node.0) (no_reader (is_delay_kind (kind_of w' e.node.0)) e.writer plain))
  where
    no_reader : (d writer : Bool) → (not writer ≡ false) ⊎ (d ≡ false) → (d && not writer) ≡ false
    no_reader false writer plain = refl
    no_reader true true plain = refl
    no_reader true false (inl writes) = absurd cc
    no_reader true false (inr plain) = absurd cc
