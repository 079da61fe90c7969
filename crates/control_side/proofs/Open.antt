-- Where no source ends before a quantum.
use Rattle.std.proofs.Common.{ℕ, zero, suc, ◌≡◌, ◌<◌, length, List, [], ◌∷◌, map, slice_index_or, Bool, true, false, refl, ap, ap₂, arith}
use Rattle.std.specs.Prelude.{if◌then◌else◌, unwrap_or}
use Rattle.meaning.specs.declared.scheds.Play.{Play}
use Rattle.meaning.specs.declared.world.World.{World}
use Rattle.meaning.specs.Lists.{listed}
use Rattle.meaning.specs.World.{plain}
use Rattle.control_msgs.specs.Messages.{ends_by, ended_marked, marked}
use Rattle.transcript.specs.declared.lines.Line.TheVariants as line
use Rattle.name_book.specs.Book.{first_name_of}
use Rattle.control_side.specs.Turns.{ended_lines}

abbrev pub NoneEnds : ℕ → List Play → Type 0
NoneEnds next plays = (i : ℕ) (d : Play) → i < length plays → ends_by next (slice_index_or plays i d).sched ≡ false

later : (next : ℕ) (p : Play) (ps : List Play) → NoneEnds next (p ∷ ps) → NoneEnds next ps
later next p ps none i d low = none (suc i) d (omega (arith, low))

pub no_lines : (names : List (ℕ × List ℕ)) (next : ℕ) (plays : List Play) → NoneEnds next plays → ended_lines names next plays ≡ []
no_lines names next [] none = refl
no_lines names next (p ∷ ps) none = rw (none 0 p (omega arith)) (no_lines names next ps (later next p ps none))

pub none_marked : (next : ℕ) (plays : List Play) → NoneEnds next plays → map (marked next) plays ≡ plays
none_marked next [] none = refl
none_marked next (p ∷ ps) none = ap₂ (λ (q : Play) (qs : List Play). q ∷ qs) (ap (λ b. if b then record p { sched = record p.sched { ended = true } } else p) (none 0 p (omega arith))) (none_marked next ps (later next p ps none))

pub same_world : (next : ℕ) (w : World) → NoneEnds next w.scheds.items → ended_marked next (plain w) ≡ plain w
same_world next w none = ap (λ ps. record (plain w) { scheds = listed ps }) (none_marked next w.scheds.items none)

-- where no line says that a source ended, none ends
pub none_told : (names : List (ℕ × List ℕ)) (next : ℕ) (plays : List Play) → length (ended_lines names next plays) ≡ 0 → NoneEnds next plays
none_told names next [] none = λ i d low. absurd (omega (arith, low))
none_told names next (p ∷ ps) none = one (ends_by next p.sched) refl none (none_told names next ps)
  where
    one : (ends : Bool) → ends_by next p.sched ≡ ends → length (if ends then line.Ended p.id (unwrap_or (first_name_of names p.id.0) []) ∷ ended_lines names next ps else ended_lines names next ps) ≡ 0
        → (length (ended_lines names next ps) ≡ 0 → NoneEnds next ps) → NoneEnds next (p ∷ ps)
    one true is told others i d low = absurd (omega (arith, told))
    one false is told others zero d low = is
    one false is told others (suc i) d low = others told i d (omega (arith, low))
