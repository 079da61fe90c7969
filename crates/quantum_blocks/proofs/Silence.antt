-- Mixing silence gives silence, and a silent block carries it.
use Rattle.std.proofs.Common.{ℕ, zero, suc, ℤ, pos, ◌≡◌, ◌+◌, Option, Some, None, List, [], ◌∷◌, map, filter, slice_index_or, Bool, true, false, cond, refl, ◌∙◌, ap, arith}
use mathlib.Core.Path.{fun_ext}
use Rattle.std.specs.Prelude.{◌*◌, ◌<◌, All, if◌then◌else◌, nat_lt, ◌&&◌}
use Rattle.std.specs.Option.{option_map_or}
use Rattle.std.proofs.lemmas.Bool.Decides.{nat_tests}
use Rattle.std.proofs.lemmas.Int.{ints}
use Rattle.wa_base.specs.Numbers.{rnd}
use Rattle.wa_base.specs.declared.graph_names.Interp.{Interp}
use Rattle.wa_base.specs.declared.graph_names.Interp.TheVariants.{Speakers, Discrete}
use Rattle.mix_rules.specs.Mixing.{Form, Layout, layout, table, kept, channel, only, silence, ◌⊘◌, form, weighed, applied, mix, total}
use Rattle.conn_graph.specs.declared.edges.Edge.{Edge}
use Rattle.conn_graph.specs.Ends.{reader_of}
use Rattle.meaning.specs.Values.{Frame, part}
use Rattle.quantum_blocks.specs.Blocks.{BlockView, at, carried}

abbrev pub no_values : ℕ → ℤ
no_values = λ k. pos 0

weighed_none : (fs : List ℤ) (i : ℕ) → weighed fs i no_values ≡ pos 0
weighed_none [] i = refl
weighed_none (f ∷ fs) i = let rest = weighed_none fs (i + 1) in omega (arith, ints, rest)

-- a form makes nothing of silence
abbrev IsDeaf : Form → Type 0
IsDeaf f = applied f no_values ≡ pos 0

divided : (fs : List ℤ) (divisor : ℤ) → rnd (pos 0) divisor ≡ pos 0 → IsDeaf (fs ⊘ divisor)
divided fs divisor none = ap (λ sum. rnd sum divisor) (weighed_none fs 0) ∙ none

one : (fs : List ℤ) → IsDeaf (only fs)
one fs = divided fs (pos 1) refl

kept_deaf : (from to c : ℕ) → IsDeaf (kept from to c)
kept_deaf from to c = by_test (nat_lt c from && nat_lt c to)
  where
    by_test : (b : Bool) → IsDeaf (if b then only (channel from c) else silence)
    by_test true = divided (channel from c) (pos 1) refl
    by_test false = refl

-- nor does a row of the table
abbrev AreDeaf : List Form → Type 0
AreDeaf [] = Unit {0}
AreDeaf (f ∷ fs) = IsDeaf f × AreDeaf fs

abbrev IsDeafRow : Option (List Form) → Type 0
IsDeafRow None = Unit {0}
IsDeafRow (Some forms) = AreDeaf forms

rows : (a b : Layout) → IsDeafRow (table a b)
rows Layout.NoLayout b = tt
rows Layout.Mono Layout.Mono = tt
rows Layout.Mono Layout.Stereo = (refl, (refl, tt))
rows Layout.Mono Layout.Quad = (refl, (refl, (refl, (refl, tt))))
rows Layout.Mono Layout.FivePointOne = (refl, (refl, (refl, (refl, (refl, (refl, tt))))))
rows Layout.Mono Layout.NoLayout = tt
rows Layout.Stereo Layout.Mono = (refl, tt)
rows Layout.Stereo Layout.Stereo = tt
rows Layout.Stereo Layout.Quad = (refl, (refl, (refl, (refl, tt))))
rows Layout.Stereo Layout.FivePointOne = (refl, (refl, (refl, (refl, (refl, (refl, tt))))))
rows Layout.Stereo Layout.NoLayout = tt
rows Layout.Quad Layout.Mono = (refl, tt)
rows Layout.Quad Layout.Stereo = (refl, (refl, tt))
rows Layout.Quad Layout.Quad = tt
rows Layout.Quad Layout.FivePointOne = (refl, (refl, (refl, (refl, (refl, (refl, tt))))))
rows Layout.Quad Layout.NoLayout = tt
rows Layout.FivePointOne Layout.Mono = (refl, tt)
rows Layout.FivePointOne Layout.Stereo = (refl, (refl, tt))
rows Layout.FivePointOne Layout.Quad = (refl, (refl, (refl, (refl, tt))))
rows Layout.FivePointOne Layout.FivePointOne = tt
rows Layout.FivePointOne Layout.NoLayout = tt

picked : (forms : List Form) → AreDeaf forms → (c : ℕ) → IsDeaf (slice_index_or forms c silence)
picked [] are c = refl
picked (f ∷ fs) are zero = are.0
picked (f ∷ fs) are (suc c) = picked fs are.1 c

row_or : (o : Option (List Form)) → IsDeafRow o → (c : ℕ) (other : Form) → IsDeaf other → IsDeaf (option_map_or (λ outputs. slice_index_or outputs c silence) o other)
row_or None are c other is = is
row_or (Some forms) are c other is = picked forms are c

pub mix_none : (interp : Interp) (from to c : ℕ) → mix interp from to no_values c ≡ pos 0
unfolding mix form
mix_none Speakers from to c = row_or (table (layout from) (layout to)) (rows (layout from) (layout to)) c (kept from to c) (kept_deaf from to c)
mix_none Discrete from to c = kept_deaf from to c

-- a connection from a silent end adds nothing
pub part_none : (x : Frame) (interp : Interp) (to c : ℕ) (e : Edge) (leads : Bool) → x.values (reader_of e.from.0) e.output ≡ no_values → (if leads then part x interp to c e else pos 0) ≡ pos 0
part_none x interp to c e true none = ap (λ v. mix interp (x.counts (reader_of e.from.0)) to v c) none ∙ mix_none interp (x.counts (reader_of e.from.0)) to c
part_none x interp to c e false none = refl

-- connections from silent ends carry nothing
pub none_heard : (x : Frame) (interp : Interp) (to c : ℕ) (p : Edge → Bool) (edges : List Edge) → All (λ e. x.values (reader_of e.from.0) e.output ≡ no_values) edges → total (map (part x interp to c) (filter p edges)) ≡ pos 0
none_heard x interp to c p [] all = refl
none_heard x interp to c p (e ∷ es) all = by_test (p e) (none_heard x interp to c p es (λ k d l. all (suc k) d (omega arith)))
  where
    own : part x interp to c e ≡ pos 0
    own = part_none x interp to c e true (all 0 e (omega arith))

    by_test : (b : Bool) → total (map (part x interp to c) (filter p es)) ≡ pos 0 → total (map (part x interp to c) (cond b (e ∷ filter p es) (filter p es))) ≡ pos 0
    by_test true below = omega (arith, ints, own, below)
    by_test false below = below

-- an output of a silent block carries silence; a lane that the block lacks is silent too
pub silent_carried : (b : BlockView) (n o m : ℕ) → ((lane : ℕ) → lane < b.lanes → at b lane m ≡ pos 0) → carried b n o m ≡ no_values
silent_carried b n o m silent = fun_ext (λ c. by_lane c (o * n + c) (nat_lt c n) (nat_lt (o * n + c) b.lanes) refl)
  where
    by_lane : (c lane : ℕ) (inside there : Bool) → nat_lt lane b.lanes ≡ there → (if inside then if there then at b lane m else pos 0 else pos 0) ≡ pos 0
    by_lane c lane false there t = refl
    by_lane c lane true false t = refl
    by_lane c lane true true t = silent lane (let low : lane < b.lanes = grind (arith, nat_tests) in low)
