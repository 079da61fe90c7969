-- Events in pieces, of which one is changed.
use Rattle.std.proofs.Common.{ℕ, zero, suc, ◌≡◌, ◌+◌, ◌-◌, ◌<◌, ◌≤◌, List, [], ◌∷◌, ◌++◌, length, take, drop, get_or, set, ap, sym, ◌∙◌, refl, arith, append_assoc, add-one, Some, length-append}
use Rattle.std.specs.Prelude.{slice_get}
use Rattle.std.specs.List.{insert}
use Rattle.std.proofs.Math.Seq.{take-append-add, drop-append-add}
use Rattle.std.proofs.lemmas.List.{set_split, take-append-le, drop-append-le, set-append_left, set-append_right, take_more_set, append-nil, take-append-drop, drop-set-lt}
use Rattle.std.proofs.lemmas.List.Concat.{flat_map-append, get_or-flat_map}
use Rattle.std.proofs.lemmas.Option.{slice_get-get_or}
use Rattle.param_events.specs.declared.events.Event.{Event}
use Rattle.param_events.specs.Pieces.{Piece, all, IsIn}

joined : (ps qs : List Piece) → all (ps ++ qs) ≡ all ps ++ all qs
joined ps qs = flat_map-append (λ (p : Piece). p.items) ps qs

-- the events before a piece, its own, and those behind it
all_set : (ps : List Piece) (k : ℕ) (p : Piece) → k < length ps → all (set ps k p) ≡ all (take k ps) ++ (p.items ++ all (drop (suc k) ps))
all_set ps k p l = ap all (set_split ps k p l) ∙ joined (take k ps) (p ∷ drop (suc k) ps)

all_split : (ps : List Piece) (k : ℕ) (d : Piece) → k < length ps → all ps ≡ all (take k ps) ++ ((get_or ps k d).items ++ all (drop (suc k) ps))
all_split [] k d l = absurd (omega arith)
all_split (p ∷ ps) zero d l = refl
all_split (p ∷ ps) (suc k) d l = ap (λ es. p.items ++ es) (all_split ps k d (omega arith)) ∙ sym (append_assoc p.items (all (take k ps)) _)

-- the event at a place, in its piece
pub pieced_get : (ps : List Piece) (i k j : ℕ) (own : Piece) (e : Event) → IsIn ps i k j → own ≡ get_or ps k own → e ≡ get_or own.items j e → slice_get (all ps) i ≡ Some e
pieced_get ps i k j own e is there here =
    let whole = ap length (all_split ps k own is.piece) ∙ length-append (all (take k ps)) ((get_or ps k own).items ++ all (drop (suc k) ps)) in
    let part = length-append (get_or ps k own).items (all (drop (suc k) ps)) in
    let low = is.place own in
    slice_get-get_or (all ps) i e (omega (arith, whole, part, low, is.before))
    ∙ ap Some (ap (λ n. get_or (all ps) n e) (sym is.before) ∙ get_or-flat_map (λ (p : Piece). p.items) ps k j own e is.piece low ∙ ap (λ (p : Piece). get_or p.items j e) (sym there) ∙ sym here)

-- another event in the place of one
pub pieced_set : (ps : List Piece) (i k j : ℕ) (own p : Piece) (x : Event) → IsIn ps i k j → own ≡ get_or ps k own → p.items ≡ set own.items j x → all (set ps k p) ≡ set (all ps) i x
pieced_set ps i k j own p x is there new =
    let before = all (take k ps) in
    let old = (get_or ps k own).items in
    let behind = all (drop (suc k) ps) in
    let far : length before ≤ i = let b = is.before in omega (arith, b) in
    let place : i - length before ≡ j = let b = is.before in omega (arith, b) in
    all_set ps k p is.piece ∙ ap (λ es. before ++ (es ++ behind)) (new ∙ ap (λ (v : Piece). set v.items j x) there)
    ∙ sym (ap (λ es. set es i x) (all_split ps k own is.piece) ∙ set-append_right before (old ++ behind) (length before) i x refl far
    ∙ ap (λ n. before ++ set (old ++ behind) n x) place ∙ ap (λ es. before ++ es) (set-append_left old behind j x (is.place own)))

take_at : (ps : List Piece) (i k j : ℕ) (d : Piece) → IsIn ps i k j → take i (all ps) ≡ all (take k ps) ++ take j (get_or ps k d).items
take_at ps i k j d is =
    let before = all (take k ps) in
    let own = (get_or ps k d).items in
    let behind = all (drop (suc k) ps) in
    let low : j ≤ length own = let l = is.place d in omega (arith, l) in
    ap (λ n. take n (all ps)) (sym is.before) ∙ ap (take (length before + j)) (all_split ps k d is.piece) ∙ take-append-add before (own ++ behind) j
    ∙ ap (λ es. before ++ es) (take-append-le j own behind low)

drop_at : (ps : List Piece) (i k j : ℕ) (d : Piece) → IsIn ps i k j → drop i (all ps) ≡ drop j (get_or ps k d).items ++ all (drop (suc k) ps)
drop_at ps i k j d is =
    let before = all (take k ps) in
    let own = (get_or ps k d).items in
    let behind = all (drop (suc k) ps) in
    let low : j ≤ length own = let l = is.place d in omega (arith, l) in
    ap (λ n. drop n (all ps)) (sym is.before) ∙ ap (drop (length before + j)) (all_split ps k d is.piece) ∙ drop-append-add before (own ++ behind) j
    ∙ drop-append-le j own behind low

-- one event more
pub pieced_insert : (ps : List Piece) (i k j : ℕ) (own p : Piece) (x : Event) → IsIn ps i k j → own ≡ get_or ps k own → p.items ≡ insert own.items j x → all (set ps k p) ≡ insert (all ps) i x
pieced_insert ps i k j own p x is there new =
    let before = all (take k ps) in
    let old = (get_or ps k own).items in
    let behind = all (drop (suc k) ps) in
    all_set ps k p is.piece ∙ ap (λ es. before ++ (es ++ behind)) (new ∙ ap (λ (v : Piece). insert v.items j x) there)
    ∙ ap (λ es. before ++ es) (append_assoc (take j old) (x ∷ drop j old) behind) ∙ sym (append_assoc before (take j old) (x ∷ (drop j old ++ behind)))
    ∙ sym (ap (λ es. es ++ x ∷ drop i (all ps)) (take_at ps i k j own is) ∙ ap (λ es. (before ++ take j old) ++ x ∷ es) (drop_at ps i k j own is))

-- no events from a place on
pub pieced_take : (ps : List Piece) (i k j : ℕ) (own p : Piece) → IsIn ps i k j → own ≡ get_or ps k own → p.items ≡ take j own.items → all (take (k + 1) (set ps k p)) ≡ take i (all ps)
pieced_take ps i k j own p is there new =
    ap all (take_more_set ps k p is.piece) ∙ joined (take k ps) (p ∷ [])
    ∙ ap (λ es. all (take k ps) ++ es) (append-nil p.items ∙ new ∙ ap (λ (v : Piece). take j v.items) there) ∙ sym (take_at ps i k j own is)

-- the same events where a piece keeps its own
pub pieced_same : (ps : List Piece) (k : ℕ) (own p : Piece) → k < length ps → own ≡ get_or ps k own → p.items ≡ own.items → all (set ps k p) ≡ all ps
pieced_same ps k own p l there same =
    all_set ps k p l ∙ ap (λ es. all (take k ps) ++ (es ++ all (drop (suc k) ps))) (same ∙ ap (λ (v : Piece). v.items) there) ∙ sym (all_split ps k own l)

none_behind : (ps : List Piece) (k : ℕ) → suc k ≡ length ps → drop (suc k) ps ≡ []
none_behind [] k e = absurd (omega (arith, e))
none_behind (p ∷ []) zero e = refl
none_behind (p ∷ q ∷ ps) zero e = absurd (omega (arith, e))
none_behind (p ∷ ps) (suc k) e = none_behind ps k (omega (arith, e))

-- an event behind all others
pub pieced_push : (ps : List Piece) (k : ℕ) (own p : Piece) (x : Event) → suc k ≡ length ps → own ≡ get_or ps k own → p.items ≡ own.items ++ x ∷ [] → all (set ps k p) ≡ all ps ++ x ∷ []
pieced_push ps k own p x last there new =
    let before = all (take k ps) in
    let old = (get_or ps k own).items in
    let l : k < length ps = omega (arith, last) in
    let none : all (drop (suc k) ps) ≡ [] = ap all (none_behind ps k last) in
    all_set ps k p l ∙ ap (λ es. before ++ (p.items ++ es)) none ∙ ap (λ es. before ++ es) (append-nil p.items ∙ new ∙ ap (λ (v : Piece). v.items ++ x ∷ []) there)
    ∙ sym (append_assoc before old (x ∷ []))
    ∙ sym (ap (λ es. es ++ x ∷ []) (all_split ps k own l ∙ ap (λ es. before ++ (old ++ es)) none ∙ ap (λ es. before ++ es) (append-nil old)))

-- a piece that is parted in two
pub pieced_parted : (ps : List Piece) (k m : ℕ) (own p q : Piece) → k < length ps → own ≡ get_or ps k own → p.items ≡ take m own.items → q.items ≡ drop m own.items → all (insert (set ps k p) (k + 1) q) ≡ all ps
pieced_parted ps k m own p q l there first rest =
    let before = all (take k ps) in
    let behind = all (drop (suc k) ps) in
    joined (take (k + 1) (set ps k p)) (q ∷ drop (k + 1) (set ps k p))
    ∙ ap (λ xs. all xs ++ all (q ∷ drop (k + 1) (set ps k p))) (take_more_set ps k p l)
    ∙ ap (λ xs. all (take k ps ++ p ∷ []) ++ all (q ∷ xs)) (drop-set-lt (k + 1) ps k p (omega arith) ∙ ap (λ n. drop n ps) (add-one k))
    ∙ ap (λ es. es ++ (q.items ++ behind)) (joined (take k ps) (p ∷ []) ∙ ap (λ es. before ++ es) (append-nil p.items))
    ∙ append_assoc before p.items (q.items ++ behind) ∙ ap (λ es. before ++ es) (sym (append_assoc p.items q.items behind))
    ∙ ap (λ es. before ++ (es ++ behind)) (ap (λ es. es ++ q.items) first ∙ ap (λ es. take m own.items ++ es) rest ∙ take-append-drop m own.items ∙ ap (λ (v : Piece). v.items) there)
    ∙ sym (all_split ps k own l)

no_length : (es : List Event) → length es ≡ 0 → es ≡ []
no_length [] h = refl
no_length (e ∷ es) h = absurd (omega (arith, h))

-- the events without the first
pub pieced_remove : (ps : List Piece) (k j : ℕ) (own p : Piece) → IsIn ps 0 k j → own ≡ get_or ps k own → p.items ≡ take j own.items ++ drop (j + 1) own.items → all (set ps k p) ≡ drop 1 (all ps)
pieced_remove ps k j own p is there new =
    let before = all (take k ps) in
    let old = (get_or ps k own).items in
    let behind = all (drop (suc k) ps) in
    let none : before ≡ [] = no_length before (let b = is.before in omega (arith, b)) in
    let first : j ≡ 0 = let b = is.before in omega (arith, b) in
    let some : 1 ≤ length old = let l = is.place own in omega (arith, l) in
    all_set ps k p is.piece ∙ ap (λ es. es ++ (p.items ++ behind)) none
    ∙ ap (λ es. es ++ behind) (new ∙ ap (λ n. take n own.items ++ drop (n + 1) own.items) first ∙ ap (λ (v : Piece). drop 1 v.items) there)
    ∙ sym (ap (drop 1) (all_split ps k own is.piece ∙ ap (λ es. es ++ (old ++ behind)) none) ∙ drop-append-le 1 old behind some)
