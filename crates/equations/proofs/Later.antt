-- What the reader of a delay gives, of what its writer carried.
use Rattle.std.proofs.Common.{ℕ, ℤ, ◌≡◌, ◌+◌, ◌-◌, ◌/◌, ◌<◌, ◌≤◌, length, true, false, sym, ◌∙◌, ap}
use Rattle.wa_base.specs.Numbers.{sat}
use Rattle.wa_base.specs.declared.graph_names.End.{End}
use Rattle.mix_rules.specs.Mixing.{mix}
use Rattle.node_table.specs.Kinds.{is_delay_kind}
use Rattle.node_table.specs.declared.nodes.Attrs.{Attrs}
use Rattle.conn_graph.specs.Ends.{writer_of, reader_of, muted}
use Rattle.meaning.specs.World.{node_at, kind_of}
use Rattle.meaning.specs.Values.{delayed}
use Rattle.explain.proofs.Mixes.{mix_reads}
use Rattle.derivations.specs.declared.places.Context.{Context}
use Rattle.derivations.specs.Contexts.{world_of, HasFrame}
use Rattle.equations.specs.Given.{IsGiven, meaning_of, frame_of, frames_before}
use Rattle.equations.proofs.Delaying.{d, old, delayed_fix, sat_of_fix}

module _ (x : Context) (given : IsGiven x) (f : ℕ) (e : End) (c : ℕ) (short : HasFrame x f) (there : e.node.0 < length (world_of x f).nodes) (delay : is_delay_kind (kind_of (world_of x f) e.node.0) ≡ true)
    (reader : e.writer ≡ false) (loud : muted (world_of x f).graph.value e ≡ false) (frames : ℕ) (long : frames ≡ d x given f e.node.0) (born : (node_at (world_of x f) e.node.0).attrs.birth + d x given f e.node.0 ≤ f) where
  abbrev n : ℕ
  n = e.node.0

  -- what the writer carried
  abbrev values : ℕ → ℕ → ℤ
  values k = (meaning_of x).values (f - k) (writer_of n) 0

  abbrev many : ℕ → ℕ
  many k = (meaning_of x).counts ((f - k) / x.quantum) (writer_of n)

  is_reader : e ≡ reader_of n
  is_reader = ap (λ t. let y : End = record { node = e.node; writer = t } in y) reader

  pub given_later : (a : Attrs) (count to : ℕ) (samples : ℕ → ℤ) (mixed : ℤ) → (node_at (world_of x f) n).attrs ≡ a → count ≡ many frames → to ≡ (meaning_of x).counts (f / x.quantum) e
      → ((k : ℕ) → k < count → samples k ≡ values frames k) → mixed ≡ mix a.interp count to samples c → sat mixed ≡ delayed x.quantum f (frames_before x f) (frame_of x f) n c
  given_later a count to samples mixed own count_is to_is each is =
      ap sat
      (is
      ∙ mix_reads a.interp count to samples (values frames) c each
      ∙ ap (λ m. mix a.interp m to (values frames) c) count_is
      ∙ ap (λ t. mix a.interp (many frames) t (values frames) c) to_is
      ∙ ap (λ k. mix a.interp (many k) ((meaning_of x).counts (f / x.quantum) e) (values k) c) long
      ∙ ap (λ (y : End). mix a.interp (many (d x given f n)) ((meaning_of x).counts (f / x.quantum) y) (values (d x given f n)) c) is_reader
      ∙ ap (λ (b : Attrs). mix b.interp (many (d x given f n)) ((meaning_of x).counts (f / x.quantum) (reader_of n)) (values (d x given f n)) c) (sym own))
      ∙ sat_of_fix _ (delayed_fix x given f n short there delay born (ap (muted (world_of x f).graph.value) (sym is_reader) ∙ loud) (node_at (world_of x f) n).attrs.interp c)
      ∙ old x given f n c born
