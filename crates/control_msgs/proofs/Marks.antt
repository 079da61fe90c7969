-- Sources that are marked one after another.
use Rattle.std.proofs.Common.{◌≡◌, ◌<◌, ◌+◌, ◌++◌, ◌∷◌, [], ℕ, List, length, map, take, drop, Bool, true, false, Option, None, Some, inl, inr, refl, sym, ◌∙◌, ap, subst, arith}
use Rattle.std.specs.Prelude.{slice_get, slice_set, slice_index_or, if◌then◌else◌}
use Rattle.std.proofs.lemmas.List.{get_or_default, set-get_or}
use Rattle.std.proofs.lemmas.List.Edits.{map_over_more}
use Rattle.std.proofs.lemmas.Option.{get_or_from_slice_get}
use Rattle.law_base.specs.Members.{IsIn}
use Rattle.wa_base.specs.declared.graph_names.NodeId.{NodeId}
use Rattle.buffer_store.specs.declared.buffers.Buffer.{Buffer}
use Rattle.node_table.specs.declared.rows.Plays.{Plays}
use Rattle.node_table.specs.declared.rows.Plays.TheVariants as played
use Rattle.node_table.specs.Kinds.{row}
use Rattle.meaning.specs.declared.world.World.{World}
use Rattle.meaning.specs.Lists.{Listed}
use Rattle.meaning.specs.World.{kind_of, plain}
use Rattle.meaning.specs.Validity.{IsPlay, IsPlayOf, IsValid, play_nodes}
use Rattle.meaning.proofs.Valid.{valid_of, valid_plain, plain_valid}
use Rattle.meaning.specs.declared.scheds.Play.{Play}
use Rattle.control_msgs.specs.Messages.{ends_by, marked}

-- f x was written over the element at i, which was read at some default
pub map_over_next : {X : Type 0} (f : X → X) (xs ys : List X) (i : ℕ) (d : X) → i < length xs → length ys ≡ length xs → ys ≡ map f (take i xs) ++ drop i xs
    → slice_set ys i (f (slice_index_or ys i d)) ≡ map f (take (i + 1) xs) ++ drop (i + 1) xs
map_over_next f xs ys i d within same so_far =
    map_over_more f xs ys i (slice_index_or ys i d) within so_far (get_or_default ys i d (slice_index_or ys i d) (omega arith))

-- the play at a place, marked
pub one_marked : (now : ℕ) (xs ys : List Play) (i : ℕ) (old : Play) → i < length xs → length ys ≡ length xs → ys ≡ map (marked now) (take i xs) ++ drop i xs
    → slice_get ys i ≡ Some old → slice_set ys i (marked now old) ≡ map (marked now) (take (i + 1) xs) ++ drop (i + 1) xs
one_marked now xs ys i old within same so_far is =
    ap (λ p. slice_set ys i (marked now p)) (sym (get_or_from_slice_get ys i old old is)) ∙ map_over_next (marked now) xs ys i old within same so_far

marks : (now : ℕ) (old : Play) (b : Bool) → ends_by now old.sched ≡ b → marked now old ≡ (if b then record old { sched = record old.sched { ended = true } } else old)
marks now old true is = rw is refl
marks now old false is = rw is refl

pub marked_now : (now : ℕ) (old : Play) → ends_by now old.sched ≡ true → marked now old ≡ record old { sched = record old.sched { ended = true } }
marked_now now old is = marks now old true is

-- a play that does not end stays
pub not_marked : (now : ℕ) (xs ys : List Play) (i : ℕ) (old : Play) → i < length xs → length ys ≡ length xs → ys ≡ map (marked now) (take i xs) ++ drop i xs
    → slice_get ys i ≡ Some old → ends_by now old.sched ≡ false → ys ≡ map (marked now) (take (i + 1) xs) ++ drop (i + 1) xs
not_marked now xs ys i old within same so_far is stays =
    sym (set-get_or ys i old) ∙ ap (λ p. slice_set ys i p) (get_or_from_slice_get ys i old old is ∙ sym (marks now old false stays)) ∙ one_marked now xs ys i old within same so_far is

-- marking leaves alone whose the schedules are
pub marked_nodes : (now : ℕ) (plays : List Play) → map (λ (p : Play). p.id.0) (map (marked now) plays) ≡ map (λ (p : Play). p.id.0) plays
marked_nodes now [] = refl
marked_nodes now (p ∷ ps) = let here = same_node now p (ends_by now p.sched) refl in let rest = marked_nodes now ps in cc
  where
    same_node : (now : ℕ) (p : Play) (b : Bool) → ends_by now p.sched ≡ b → (marked now p).id.0 ≡ p.id.0
    same_node now p b is = ap (λ (q : Play). q.id.0) (marks now p b is) ∙ by_mark b
      where
        by_mark : (b : Bool) → (if b then record p { sched = record p.sched { ended = true } } else p).id.0 ≡ p.id.0
        by_mark true = refl
        by_mark false = refl

-- and what they play
mark_plays : (store : List Buffer) (plays : Option Plays) (p : Play) (b : Bool) → IsPlay store plays p → IsPlay store plays (if b then record p { sched = record p.sched { ended = true } } else p)
mark_plays store plays p false is = is
mark_plays store None p true is = is
mark_plays store (Some played.Value) p true is = record { content = is.content; buffer = is.buffer }
mark_plays store (Some (played.Content rate)) p true is = record { content = is.content; plays = is.plays; rate_of = is.rate_of; there = is.there; length_of = is.length_of }

mark_id : (p : Play) (b : Bool) → (if b then record p { sched = record p.sched { ended = true } } else p).id ≡ p.id
mark_id p true = refl
mark_id p false = refl

pub marked_kinds : (w : World) (now : ℕ) (plays : List Play) → ((p : Play) → IsIn p plays → IsPlayOf w.store (kind_of w p.id.0) p)
    → (p : Play) → IsIn p (map (marked now) plays) → IsPlayOf w.store (kind_of w p.id.0) p
marked_kinds w now [] each p is = absurd is
marked_kinds w now (q ∷ qs) each p (inl same) =
    let b : Bool = ends_by now q.sched in
    subst (λ (x : Play). IsPlayOf w.store (kind_of w x.id.0) x) (sym same)
    (subst (λ (id : NodeId). IsPlayOf w.store (kind_of w id.0) (if b then record q { sched = record q.sched { ended = true } } else q)) (sym (mark_id q b)) (mark_plays w.store (row (kind_of w q.id.0)).plays q b (each q (inl refl))))
marked_kinds w now (q ∷ qs) each p (inr is) = marked_kinds w now qs (λ x h. each x (inr h)) p is

-- a world in which sources are marked is valid
pub marked_valid : (w : World) (scheds : Listed Play) (next : ℕ) → scheds.items ≡ map (marked next) w.scheds.items → IsValid w → IsValid (record w { scheds = scheds })
marked_valid w scheds next is valid =
    let same : map (λ (p : Play). p.id.0) scheds.items ≡ play_nodes w = ap (map (λ (p : Play). p.id.0)) is ∙ marked_nodes next w.scheds.items in
    let kinds : (p : Play) → IsIn p scheds.items → IsPlayOf w.store (kind_of w p.id.0) p =
    subst (λ (ps : List Play). (p : Play) → IsIn p ps → IsPlayOf w.store (kind_of w p.id.0) p) (sym is) (marked_kinds w next w.scheds.items valid.scheds.kinds) in
    valid_plain (record w { scheds = scheds }) (valid_of (plain w) (plain (record w { scheds = scheds })) refl refl refl refl same kinds valid.store (plain_valid w valid))
