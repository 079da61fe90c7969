-- The connections of a site come from ends that are there, and are not too many; and its end has its place.
use Rattle.std.proofs.Common.{ℕ, ◌≡◌, ◌+◌, ◌*◌, ◌<◌, ◌≤◌, length, List, slice_index_or, sym, arith, subst}
use Rattle.wa_base.specs.Contexts.{quantum_of}
use Rattle.wa_base.specs.declared.graph_names.End.{End}
use Rattle.node_table.specs.Kinds.{outputs}
use Rattle.conn_graph.specs.declared.edges.Edge.{Edge}
use Rattle.conn_graph.specs.Ends.{reader_of}
use Rattle.conn_graph.specs.Graph.{HasPlace}
use Rattle.conn_graph.proofs.EndLaws.{has_end}
use Rattle.meaning.specs.declared.world.World.{World}
use Rattle.meaning.specs.World.{kind_of}
use Rattle.meaning.specs.Validity.{IsValid}
use Rattle.automation.specs.Levels.{LevelView}
use Rattle.quantum_blocks.specs.Blocks.{BlockView, slot, counts_in}
use Rattle.quantum_blocks.specs.Connections.{into}
use Rattle.quantum_blocks.specs.Fits.{AreInRange, AreFit, AreSources}
use Rattle.quantum_blocks.proofs.Slots.{slot_low, output_low}
use Rattle.quantum_blocks.proofs.Sources.{into_places, into_few, same_nodes, outputs_are, end_low, into_slots}
use Rattle.quantum_render.specs.Sites.{IsSite}

-- the connections of a site come from ends that are there
pub source_there : (w : World) (e : End) (edges : List Edge) (counts : List ℕ) (levels : List LevelView) (first : ℕ) → IsSite w e edges counts levels first → (i : ℕ) (d : Edge) → i < length edges
    → HasPlace w.graph.value (slice_index_or edges i d)
source_there w e edges counts levels first site i d l =
    subst (λ (es : List Edge). HasPlace w.graph.value (slice_index_or es i d)) (sym site.into)
    (into_places w.graph.value e.node.0 site.quantum.valid.graph i d (subst (λ (es : List Edge). i < length es) site.into l))

pub source_slot : (w : World) (e : End) (edges : List Edge) (counts : List ℕ) (levels : List LevelView) (first : ℕ) → IsSite w e edges counts levels first → (i : ℕ) (d : Edge) → i < length edges
    → slot (reader_of (slice_index_or edges i d).from.0) < length counts
source_slot w e edges counts levels first site i d l = into_slots w site.quantum.valid e.node.0 counts site.quantum.range.places edges site.into i d l

-- the connections to a node come from outputs that their blocks have, with the frames of the world's quanta
pub sources_fit : (w : World) → IsValid w → (n : ℕ) (edges : List Edge) → edges ≡ into w.graph.value n → (counts : List ℕ) → AreInRange w counts → (blocks : List BlockView) → AreFit w counts blocks → AreSources (quantum_of w.spec) counts blocks edges
sources_fit w valid n edges here counts range blocks fit i d l =
    let x : Edge = slice_index_or edges i d in
    let source : End = reader_of x.from.0 in
    let place = subst (λ (es : List Edge). HasPlace w.graph.value (slice_index_or es i d)) (sym here) (into_places w.graph.value n valid.graph i d (subst (λ (es : List Edge). i < length es) here l)) in
    let node : x.from.0 < length w.nodes = subst (λ k. x.from.0 < k) (same_nodes w valid) place.from in
    let there : slot source < length counts = into_slots w valid n counts range.places edges here i d l in
    let long = range.places in
    let wide = fit.places in
    record {
      block = omega arith;
      count = there;
      low = range.low (slot source) there;
      high = range.high (slot source) there;
      lanes = subst (λ n. x.output * counts_in counts source + counts_in counts source ≤ n) (sym (fit.lanes source (has_end w.graph.value x.from.0 place.from)))
          (output_low x.output (outputs (kind_of w x.from.0)) (counts_in counts source) (subst (λ n. x.output < n) (outputs_are w valid x.from.0 node) place.output));
      frames = fit.frames source (has_end w.graph.value x.from.0 place.from);
    }

pub source_is : (w : World) (e : End) (edges : List Edge) (counts : List ℕ) (levels : List LevelView) (first : ℕ) (blocks : List BlockView) → IsSite w e edges counts levels first → AreFit w counts blocks
    → AreSources (quantum_of w.spec) counts blocks edges
source_is w e edges counts levels first blocks site fit = sources_fit w site.quantum.valid e.node.0 edges site.into counts site.quantum.range blocks fit

pub site_few : (w : World) (e : End) (edges : List Edge) (counts : List ℕ) (levels : List LevelView) (first : ℕ) → IsSite w e edges counts levels first → length edges ≤ 8192
site_few w e edges counts levels first site = subst (λ (es : List Edge). length es ≤ 8192) (sym site.into) (into_few w.graph.value e.node.0 site.quantum.valid.graph)

-- a site's end has its place
pub site_slot : (w : World) (e : End) (edges : List Edge) (counts : List ℕ) (levels : List LevelView) (first : ℕ) → IsSite w e edges counts levels first → slot e < length counts
site_slot w e edges counts levels first site = subst (λ k. slot e < k) (sym site.quantum.range.places) (slot_low e (length w.nodes) (end_low w site.quantum.valid e site.there))

pub place_within : (w : World) (e : End) (edges : List Edge) (counts : List ℕ) (levels : List LevelView) (first : ℕ) → IsSite w e edges counts levels first → (k : ℕ) → k ≡ slot e → k < length counts
place_within w e edges counts levels first site k here = subst (λ j. j < length counts) (sym here) (site_slot w e edges counts levels first site)
