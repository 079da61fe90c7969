use Rattle.std.proofs.Common.{rules, ◌≡◌, ◌<◌, length, List, ◌++◌, map, Option, Some, None, sym, ◌∙◌, ap, subst, arith}
use Rattle.std.specs.Prelude.{option_to_list, IfSome}
use Rattle.std.proofs.lemmas.List.{append-nil}
use Rattle.meaning.specs.World.{sounding}
use Rattle.derivations.specs.declared.tape.Piece.{Piece}
use Rattle.derivations.specs.Tapes.{worlds}
use Rattle.explain_top.specs.declared.keeper.Keeper.TheInside.{Inside}
use Rattle.explain_top.proofs.Keeping.{kept_with, length-worlds_more, as_many, shown_next, shown_again}
use Rattle.explain_top.proofs.keeper.KeeperObserver.show.Goals as goal

-- the pieces of a keeper that was not changed
unchanged : (now was : Inside) (kept : List Piece) → now ≡ was → was.tape ++ option_to_list was.last ≡ kept → now.tape ++ option_to_list now.last ≡ kept
unchanged now was kept same view = ap (λ (k : Inside). k.tape ++ option_to_list k.last) same ∙ view

pub overflow_add-piece : goal.overflow_add-piece
overflow_add-piece c =
    let kept = kept_with c.self.inside.tape c.self.inside.last (Some c.in-Some.piece) c.args.self.now c.self.view_is c.in-Some.is in
    let all = ap (λ (ps : List Piece). length (worlds ps)) kept ∙ length-worlds_more c.self.inside.tape c.in-Some.piece in
    let e = as_many c.args.self.now c.requires.0 c.requires.1 in
    let few = c.requires.2.few in
    omega (arith, e, all, few)

pub returns : goal.returns
returns c shown seen =
    let kept = kept_with c.self.inside.tape c.self.inside.last (Some c.in-Some.piece) c.args.self.now c.self.view_is c.in-Some.is in
    let some : 0 < c.in-Some.piece.quanta = (let P : Option Piece → Type 0 = λ last. IfSome last (λ piece. 0 < piece.quanta) in subst P c.in-Some.is c.self.invariant) in
    let last = c.requires.2.last c.if-again.true in
    shown_again c.self.inside.tape c.in-Some.piece c.args.world.now shown last.0 some (sym seen ∙ c.requires.1 ∙ last.1) (ap (λ (ps : List Piece). map sounding (worlds ps)) (sym kept) ∙ seen)

pub push-requires : goal.push-requires
push-requires c =
    let there = unchanged c.else-again.self-inside c.self.inside c.args.self.now (search rules) c.self.view_is in
    let kept = kept_with c.else-again.self-inside.tape c.else-again.self-inside.last (Some c.in-Some-replace.piece) c.args.self.now there (sym c.replace.ensures.value ∙ c.in-Some-replace.is) in
    let all = ap (λ (ps : List Piece). length (worlds ps)) kept ∙ length-worlds_more c.else-again.self-inside.tape c.in-Some-replace.piece in
    let e = as_many c.args.self.now c.requires.0 c.requires.1 in
    let few = c.requires.2.few in
    omega (arith, e, all, few)

pub returns-in_ok-push : goal.returns-in_ok-push
returns-in_ok-push c shown seen =
    let there = unchanged c.else-again.self-inside c.self.inside c.args.self.now (search rules) c.self.view_is in
    let kept = kept_with c.else-again.self-inside.tape c.else-again.self-inside.last (Some c.in-Some-replace.piece) c.args.self.now there (sym c.replace.ensures.value ∙ c.in-Some-replace.is) in
    ap (λ (last : Option Piece). map sounding (worlds (c.push.new.self ++ option_to_list last))) c.replace.ensures.after
    ∙ shown_next c.push.new.self c.args.world.now c.in_ok-copy.field-0 shown c.in_ok-copy.ensures (ap (λ (ps : List Piece). map sounding (worlds ps)) (c.in_ok-push.ensures.ok ∙ sym kept) ∙ seen)

pub returns-in_default : goal.returns-in_default
returns-in_default c shown seen =
    let there = unchanged c.else-again.self-inside c.self.inside c.args.self.now (search rules) c.self.view_is in
    let kept = kept_with c.else-again.self-inside.tape c.else-again.self-inside.last None c.args.self.now there (sym c.replace.ensures.value ∙ c.in_default.is) in
    ap (λ (last : Option Piece). map sounding (worlds (c.else-again.self-inside.tape ++ option_to_list last))) c.replace.ensures.after
    ∙ shown_next c.else-again.self-inside.tape c.args.world.now c.in_ok-copy.field-0 shown c.in_ok-copy.ensures (ap (λ (ps : List Piece). map sounding (worlds ps)) (sym (kept ∙ append-nil c.else-again.self-inside.tape)) ∙ seen)
