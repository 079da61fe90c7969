-- The worlds that a keeper was shown.
use Rattle.std.proofs.Common.{ℕ, ◌≡◌, ◌+◌, ◌-◌, ◌<◌, length, List, [], ◌∷◌, ◌++◌, map, Option, refl, sym, ◌∙◌, ap, arith}
use Rattle.std.specs.Prelude.{replicate, option_to_list}
use Rattle.std.proofs.lemmas.List.{append_assoc, append-nil, map-append, length-append, length-map, length-replicate, replicate_more, same_from_push}
use Rattle.meaning.specs.declared.world.World.{World}
use Rattle.meaning.specs.World.{plain, unread, sounding}
use Rattle.meaning.specs.Lists.{listed}
use Rattle.derivations.specs.declared.tape.Piece.{Piece}
use Rattle.derivations.specs.Tapes.{worlds}

-- the pieces of a keeper whose last one is this one, or that has none
pub kept_with : (tape : List Piece) (last other : Option Piece) (kept : List Piece) → tape ++ option_to_list last ≡ kept → last ≡ other → kept ≡ tape ++ option_to_list other
kept_with tape last other kept view is = sym view ∙ ap (λ (p : Option Piece). tape ++ option_to_list p) is

-- worlds that are alike sound the same
plain_sounds : (w v : World) → plain w ≡ plain v → sounding w ≡ sounding v
plain_sounds w v same = ap (λ (p : World). let x : World = record p { params = listed (map unread p.params.items) } in x) same

worlds-append : (ps qs : List Piece) → worlds (ps ++ qs) ≡ worlds ps ++ worlds qs
worlds-append [] qs = refl
worlds-append (p ∷ ps) qs = ap (λ ws. replicate p.quanta p.world ++ ws) (worlds-append ps qs) ∙ sym (append_assoc (replicate p.quanta p.world) (worlds ps) (worlds qs))

-- with one piece more
worlds-more : (ps : List Piece) (p : Piece) → worlds (ps ++ p ∷ []) ≡ worlds ps ++ replicate p.quanta p.world
worlds-more ps p = worlds-append ps (p ∷ []) ∙ ap (λ ws. worlds ps ++ ws) (append-nil (replicate p.quanta p.world))

pub length-worlds_more : (ps : List Piece) (p : Piece) → length (worlds (ps ++ p ∷ [])) ≡ length (worlds ps) + p.quanta
length-worlds_more ps p =
    let e = ap (λ (ws : List World). length ws) (worlds-more ps p) in
    let a = length-append (worlds ps) (replicate p.quanta p.world) in
    let b = length-replicate p.quanta p.world in
    omega (arith, e, a, b)

-- as many worlds as were shown
pub as_many : (ps : List Piece) (shown : List World) → map sounding (worlds ps) ≡ shown → length (worlds ps) ≡ length shown
as_many ps shown e = sym (length-map (worlds ps) sounding) ∙ ap (λ (ws : List World). length ws) e

-- a piece of another world comes after the others
pub shown_next : (ps : List Piece) (w next : World) (shown : List World) → plain next ≡ plain w → map sounding (worlds ps) ≡ shown
    → map sounding (worlds (ps ++ record { world = next; quanta = 1 } ∷ [])) ≡ shown ++ sounding w ∷ []
shown_next ps w next shown same e =
    ap (map sounding) (worlds-more ps (record { world = next; quanta = 1 }))
    ∙ map-append sounding (worlds ps) (next ∷ [])
    ∙ ap (λ ws. ws ++ sounding next ∷ []) e
    ∙ ap (λ (x : World). shown ++ x ∷ []) (plain_sounds next w same)

-- a piece of this world for one quantum more
one_more : (ps : List Piece) (w : World) (n : ℕ) → map sounding (worlds (ps ++ record { world = w; quanta = n + 1 } ∷ [])) ≡ map sounding (worlds (ps ++ record { world = w; quanta = n } ∷ [])) ++ sounding w ∷ []
one_more ps w n =
    ap (map sounding) (
    worlds-more ps (record { world = w; quanta = n + 1 })
    ∙ ap (λ ws. worlds ps ++ ws) (sym (replicate_more n w))
    ∙ sym (append_assoc (worlds ps) (replicate n w) (w ∷ []))
    ∙ ap (λ ws. ws ++ w ∷ []) (sym (worlds-more ps (record { world = w; quanta = n })))
    )
    ∙ map-append sounding (worlds (ps ++ record { world = w; quanta = n } ∷ [])) (w ∷ [])

-- the last piece goes on where the world comes again
pub shown_again : (ps : List Piece) (p : Piece) (w : World) (shown before : List World) → 0 < p.quanta → shown ≡ before ++ sounding w ∷ [] → map sounding (worlds (ps ++ p ∷ [])) ≡ shown
    → map sounding (worlds (ps ++ record { world = p.world; quanta = p.quanta + 1 } ∷ [])) ≡ shown ++ sounding w ∷ []
shown_again ps p w shown before some last e =
    let fewer : ℕ = p.quanta - 1 in
    let ends = ap (λ n. map sounding (worlds (ps ++ record { world = p.world; quanta = n } ∷ []))) (let q : p.quanta ≡ fewer + 1 = omega (arith, some) in q) ∙ one_more ps p.world fewer in
    one_more ps p.world p.quanta
    ∙ ap (λ ws. ws ++ sounding p.world ∷ []) e
    ∙ ap (λ (x : World). shown ++ x ∷ []) (same_from_push _ before (sounding p.world) (sounding w) (sym ends ∙ (e ∙ last))).1
