-- Up-mixing and down-mixing: each output channel is one linear form of the input channels, rounded once.
use Rattle.std.specs.Prelude.{ℕ, ◌+◌, ◌==◌, ◌&&◌, nat_lt, ℤ, pos, ◌+ℤ◌, ◌*ℤ◌, List, [], ◌∷◌, map, slice_index_or, Option, Some, None, if◌then◌else◌}
use Rattle.std.specs.List.{range_with_len}
use Rattle.std.specs.Option.{option_map_or}
use Rattle.wa_base.specs.Numbers.{rnd, sat}
use Rattle.wa_base.specs.declared.graph_names.Interp.{Interp}
use Rattle.wa_base.specs.declared.graph_names.Interp.TheVariants.{Speakers, Discrete}

-- ---- linear forms

-- a factor for each input channel in order, and what the sum is divided by; input channels past the last factor are left out
pub record Form : Type 0 where
  pub factors : List ℤ
  pub divisor : ℤ

-- the sum of two sums
infixl 35 ◌⊕◌
abbrev pub ◌⊕◌ : List ℤ → List ℤ → List ℤ
[] ⊕ gs = gs
(f ∷ fs) ⊕ [] = f ∷ fs
(f ∷ fs) ⊕ (g ∷ gs) = (f +ℤ g) ∷ (fs ⊕ gs)

-- a sum, k times
infixl 40 ◌⊙◌
abbrev pub ◌⊙◌ : ℤ → List ℤ → List ℤ
k ⊙ fs = map (λ f. k *ℤ f) fs

-- a sum, divided
infixl 30 ◌⊘◌
abbrev pub ◌⊘◌ : List ℤ → ℤ → Form
fs ⊘ divisor = record { factors = fs; divisor = divisor }

-- input channel i, of so many
abbrev pub channel : ℕ → ℕ → List ℤ
channel from i = map (λ c. if c == i then pos 1 else pos 0) (range_with_len 0 from)

abbrev pub only : List ℤ → Form
only fs = fs ⊘ pos 1

abbrev pub silence : Form
silence = [] ⊘ pos 1

-- ---- the table, by the layouts of speakers

pub data Layout : Type 0 where
  Mono : Layout
  Stereo : Layout
  Quad : Layout
  FivePointOne : Layout
  -- any other number of channels
  NoLayout : Layout

abbrev pub layout : ℕ → Layout
layout channels =
    if channels == 1 then Layout.Mono else
    if channels == 2 then Layout.Stereo else
    if channels == 4 then Layout.Quad else
    if channels == 6 then Layout.FivePointOne else
    Layout.NoLayout

-- in units of 2^-24: one, the square root of one half, and one half
abbrev pub one : ℤ
one = pos 16777216

abbrev pub root_half : ℤ
root_half = pos 11863283

abbrev pub half : ℤ
half = pos 8388608

-- the output channels in order, where the table has the pair: from M
abbrev pub from_mono : List ℤ → Layout → Option (List Form)
from_mono m Layout.Stereo = Some (only m ∷ only m ∷ [])
from_mono m Layout.Quad = Some (only m ∷ only m ∷ silence ∷ silence ∷ [])
from_mono m Layout.FivePointOne = Some (silence ∷ silence ∷ only m ∷ silence ∷ silence ∷ silence ∷ [])
from_mono m to = None

-- from L, R
abbrev pub from_stereo : List ℤ → List ℤ → Layout → Option (List Form)
from_stereo l r Layout.Mono = Some ((l ⊕ r ⊘ pos 2) ∷ [])
from_stereo l r Layout.Quad = Some (only l ∷ only r ∷ silence ∷ silence ∷ [])
from_stereo l r Layout.FivePointOne = Some (only l ∷ only r ∷ silence ∷ silence ∷ silence ∷ silence ∷ [])
from_stereo l r to = None

-- from L, R, SL, SR
abbrev pub from_quad : List ℤ → List ℤ → List ℤ → List ℤ → Layout → Option (List Form)
from_quad l r sl sr Layout.Mono = Some ((l ⊕ r ⊕ sl ⊕ sr ⊘ pos 4) ∷ [])
from_quad l r sl sr Layout.Stereo = Some ((l ⊕ sl ⊘ pos 2) ∷ (r ⊕ sr ⊘ pos 2) ∷ [])
from_quad l r sl sr Layout.FivePointOne = Some (only l ∷ only r ∷ silence ∷ silence ∷ only sl ∷ only sr ∷ [])
from_quad l r sl sr to = None

-- from L, R, C, LFE, SL, SR
abbrev pub from_five_point_one : List ℤ → List ℤ → List ℤ → List ℤ → List ℤ → List ℤ → Layout → Option (List Form)
from_five_point_one l r c lfe sl sr Layout.Mono =
    Some ((root_half ⊙ (l ⊕ r) ⊕ one ⊙ c ⊕ half ⊙ (sl ⊕ sr) ⊘ one) ∷ [])
from_five_point_one l r c lfe sl sr Layout.Stereo =
    Some ((one ⊙ l ⊕ root_half ⊙ (c ⊕ sl) ⊘ one) ∷ (one ⊙ r ⊕ root_half ⊙ (c ⊕ sr) ⊘ one) ∷ [])
from_five_point_one l r c lfe sl sr Layout.Quad =
    Some ((one ⊙ l ⊕ root_half ⊙ c ⊘ one) ∷ (one ⊙ r ⊕ root_half ⊙ c ⊘ one) ∷ only sl ∷ only sr ∷ [])
from_five_point_one l r c lfe sl sr to = None

abbrev pub table : Layout → Layout → Option (List Form)
table Layout.Mono to = from_mono (channel 1 0) to
table Layout.Stereo to = from_stereo (channel 2 0) (channel 2 1) to
table Layout.Quad to = from_quad (channel 4 0) (channel 4 1) (channel 4 2) (channel 4 3) to
table Layout.FivePointOne to = from_five_point_one (channel 6 0) (channel 6 1) (channel 6 2) (channel 6 3) (channel 6 4) (channel 6 5) to
table Layout.NoLayout to = None

-- ---- mixing

-- the channels stay in order: missing ones are silent, and those that are too many are dropped
abbrev pub kept : ℕ → ℕ → ℕ → Form
kept from to c = if nat_lt c from && nat_lt c to then only (channel from c) else silence

-- output channel c, where `from` channels are mixed to `to`
unfoldable pub form : Interp → ℕ → ℕ → ℕ → Form
form Speakers from to c = option_map_or (λ outputs. slice_index_or outputs c silence) (table (layout from) (layout to)) (kept from to c)
form Discrete from to c = kept from to c

-- the sum of each factor times its channel, the first factor being that of channel i
abbrev pub weighed : List ℤ → ℕ → (ℕ → ℤ) → ℤ
weighed [] i frame = pos 0
weighed (f ∷ fs) i frame = f *ℤ frame i +ℤ weighed fs (i + 1) frame

-- the form's value at a frame: one division, which is rounded
abbrev pub applied : Form → (ℕ → ℤ) → ℤ
applied f frame = rnd (weighed f.factors 0 frame) f.divisor

-- output channel c of a frame of `from` channels that is mixed to `to`; it is not saturated
unfoldable pub mix : Interp → ℕ → ℕ → (ℕ → ℤ) → ℕ → ℤ
mix interp from to frame c = applied (form interp from to c) frame

-- ---- sums over connections

-- the exact sum
abbrev pub total : List ℤ → ℤ
total [] = pos 0
total (x ∷ xs) = x +ℤ total xs

-- what an input takes in of its mixed connections: their exact sum, saturated once
abbrev pub fan_in : List ℤ → ℤ
fan_in xs = sat (total xs)
