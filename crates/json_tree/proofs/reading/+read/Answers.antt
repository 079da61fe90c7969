use Rattle.std.proofs.Common.{◌≡◌, ◌-◌, ◌<◌, [], ◌∷◌, ◌++◌, length, Some, None, sym, ap, ◌∙◌, arith, rules}
use Rattle.json.specs.Token.{Token}
use Rattle.json.specs.Json.{parse_map, after_end_array, read_key, items, members, value}
use Rattle.json.specs.Reads.{token_of}
use Rattle.json.proofs.Grammar.{value_is, read_key-shorter}
use Rattle.serde_json.specs.Data.{null, boolean, number, string, array, object, put}
use Rattle.serde_json.specs.Read.{of_json, of_items, of_members, converted}
use Rattle.json_tree.specs.View.{view, number_view, items_view, members_view}
use Rattle.json_tree.proofs.Readings.{nothing_read, null_read, boolean_read, string_read, number_read, number_refused, array_opened, object_opened, array_too_deep, object_too_deep, item_turn, item_refused, items_over, member_turn, member_refused, key_refused, members_over}
use Rattle.json_tree.proofs.Trees.{view-Null, view-Bool, view-Number, view-String, view-Array, view-Object, and_items, and_no_items, after_no_items, next_item, next_member}
use Rattle.json_tree.proofs.reading.+read.Goals as goal

-- ---- a value

pub read-returns-in_err-token-clause-bad_json : goal.read-returns-in_err-token-clause-bad_json
read-returns-in_err-token-clause-bad_json t c bad =
    let none : c.args.reader.now ≡ [] = grind arith in
    ap (λ ts. converted of_json (value c.args.depth ts)) none ∙ nothing_read c.args.depth []

pub read-returns-then-depth-eq0-clause-bad_json : goal.read-returns-then-depth-eq0-clause-bad_json
read-returns-then-depth-eq0-clause-bad_json t c bad =
    let first : c.args.reader.now ≡ token_of c.in_ok-token.token ∷ c.next.new.self = grind arith in
    ap (λ ts. converted of_json (value c.args.depth ts)) (first ∙ ap (λ k. token_of k ∷ c.next.new.self) c.in-BeginArray.is) ∙ array_too_deep c.args.depth c.next.new.self (omega arith)

pub read-returns-then-depth-eq0-2-clause-bad_json : goal.read-returns-then-depth-eq0-2-clause-bad_json
read-returns-then-depth-eq0-2-clause-bad_json t c bad =
    let first : c.args.reader.now ≡ token_of c.in_ok-token.token ∷ c.next.new.self = grind arith in
    ap (λ ts. converted of_json (value c.args.depth ts)) (first ∙ ap (λ k. token_of k ∷ c.next.new.self) c.in-BeginObject.is) ∙ object_too_deep c.args.depth c.next.new.self (omega arith)

pub read-returns-in_err-read_items-in-BeginArray-clause-bad_json : goal.read-returns-in_err-read_items-in-BeginArray-clause-bad_json
read-returns-in_err-read_items-in-BeginArray-clause-bad_json t c bad =
    let first : c.args.reader.now ≡ token_of c.in_ok-token.token ∷ c.next.new.self = grind arith in
    ap (λ ts. converted of_json (value c.args.depth ts)) (first ∙ ap (λ k. token_of k ∷ c.next.new.self) c.in-BeginArray.is) ∙ array_opened c.args.depth c.next.new.self (omega arith)
    ∙ ap (parse_map array) (c.read_items.ensures.bad_json (grind arith))

pub read-returns-in_err-read_members-in-BeginObject-clause-bad_json : goal.read-returns-in_err-read_members-in-BeginObject-clause-bad_json
read-returns-in_err-read_members-in-BeginObject-clause-bad_json t c bad =
    let first : c.args.reader.now ≡ token_of c.in_ok-token.token ∷ c.next.new.self = grind arith in
    ap (λ ts. converted of_json (value c.args.depth ts)) (first ∙ ap (λ k. token_of k ∷ c.next.new.self) c.in-BeginObject.is) ∙ object_opened c.args.depth c.next.new.self (omega arith)
    ∙ ap (parse_map object) (c.read_members.ensures.bad_json (grind arith))

pub read-returns-in-String-clause-ok : goal.read-returns-in-String-clause-ok
read-returns-in-String-clause-ok t c =
    let first : c.args.reader.now ≡ token_of c.in_ok-token.token ∷ c.next.new.self = grind arith in
    let is : c.args.reader.now ≡ Token.string c.in-String.text.now ∷ c.next.new.self = first ∙ ap (λ k. token_of k ∷ c.next.new.self) c.in-String.is in
    ap (λ ts. converted of_json (value c.args.depth ts)) is ∙ string_read c.args.depth c.next.new.self c.in-String.text.now
    ∙ ap (λ s. Some (string s, c.next.new.self)) (sym c.new.ensures) ∙ ap (λ d. Some (d, c.next.new.self)) (sym (view-String c.new.result))

pub read-returns-in-Some-clause-ok : goal.read-returns-in-Some-clause-ok
read-returns-in-Some-clause-ok t c =
    let first : c.args.reader.now ≡ token_of c.in_ok-token.token ∷ c.next.new.self = grind arith in
    let is : c.args.reader.now ≡ Token.number c.in-Number.text.now ∷ c.next.new.self = first ∙ ap (λ k. token_of k ∷ c.next.new.self) c.in-Number.is in
    ap (λ ts. converted of_json (value c.args.depth ts)) is ∙ number_read c.args.depth c.next.new.self c.in-Number.text.now (number_view c.in-Some.number) (sym c.in-Some.ensures) ∙ ap (λ d. Some (d, c.next.new.self)) (sym (view-Number c.in-Some.number))

pub read-returns-in-None-clause-bad_json : goal.read-returns-in-None-clause-bad_json
read-returns-in-None-clause-bad_json t c bad =
    let first : c.args.reader.now ≡ token_of c.in_ok-token.token ∷ c.next.new.self = grind arith in
    let is : c.args.reader.now ≡ Token.number c.in-Number.text.now ∷ c.next.new.self = first ∙ ap (λ k. token_of k ∷ c.next.new.self) c.in-Number.is in
    ap (λ ts. converted of_json (value c.args.depth ts)) is ∙ number_refused c.args.depth c.next.new.self c.in-Number.text.now (sym c.in-None.ensures)

pub read-returns-in-Bool-clause-ok : goal.read-returns-in-Bool-clause-ok
read-returns-in-Bool-clause-ok t c =
    let first : c.args.reader.now ≡ token_of c.in_ok-token.token ∷ c.next.new.self = grind arith in
    let is : c.args.reader.now ≡ Token.boolean c.in-Bool.b ∷ c.next.new.self = first ∙ ap (λ k. token_of k ∷ c.next.new.self) c.in-Bool.is in
    ap (λ ts. converted of_json (value c.args.depth ts)) is ∙ boolean_read c.args.depth c.next.new.self c.in-Bool.b ∙ ap (λ d. Some (d, c.next.new.self)) (sym (view-Bool c.in-Bool.b))

pub read-returns-in-Null-clause-ok : goal.read-returns-in-Null-clause-ok
read-returns-in-Null-clause-ok t c =
    let first : c.args.reader.now ≡ token_of c.in_ok-token.token ∷ c.next.new.self = grind arith in
    let is : c.args.reader.now ≡ Token.null ∷ c.next.new.self = first ∙ ap (λ k. token_of k ∷ c.next.new.self) c.in-Null.is in
    ap (λ ts. converted of_json (value c.args.depth ts)) is ∙ null_read c.args.depth c.next.new.self ∙ ap (λ d. Some (d, c.next.new.self)) (sym view-Null)

pub read-returns-in-EndObject-clause-bad_json : goal.read-returns-in-EndObject-clause-bad_json
read-returns-in-EndObject-clause-bad_json t c bad =
    let first : c.args.reader.now ≡ token_of c.in_ok-token.token ∷ c.next.new.self = grind arith in
    let none : value c.args.depth c.args.reader.now ≡ None = rw (value_is c.args.depth c.args.reader.now, first) (grind arith) in
    ap (converted of_json) none

pub read-returns-in_ok-read_items-in-BeginArray-clause-ok : goal.read-returns-in_ok-read_items-in-BeginArray-clause-ok
read-returns-in_ok-read_items-in-BeginArray-clause-ok t c =
    let first : c.args.reader.now ≡ token_of c.in_ok-token.token ∷ c.next.new.self = grind arith in
    let found = c.in_ok-read_items-in-BeginArray in
    ap (λ ts. converted of_json (value c.args.depth ts)) (first ∙ ap (λ k. token_of k ∷ c.next.new.self) c.in-BeginArray.is) ∙ array_opened c.args.depth c.next.new.self (omega arith)
    ∙ ap (parse_map array) found.ensures.ok ∙ ap (λ d. Some (d, c.read_items.new.reader)) (sym (view-Array found.field-0))

pub read-returns-in_ok-read_members-in-BeginObject-clause-ok : goal.read-returns-in_ok-read_members-in-BeginObject-clause-ok
read-returns-in_ok-read_members-in-BeginObject-clause-ok t c =
    let first : c.args.reader.now ≡ token_of c.in_ok-token.token ∷ c.next.new.self = grind arith in
    let found = c.in_ok-read_members-in-BeginObject in
    ap (λ ts. converted of_json (value c.args.depth ts)) (first ∙ ap (λ k. token_of k ∷ c.next.new.self) c.in-BeginObject.is) ∙ object_opened c.args.depth c.next.new.self (omega arith)
    ∙ ap (parse_map object) found.ensures.ok ∙ ap (λ d. Some (d, c.read_members.new.reader)) (sym (view-Object found.field-0))

-- ---- the items of an array

pub read_items-items-init : goal.read_items-items-init
read_items-items-init t c =
    let all = converted of_items (items (value c.args.depth) (length c.args.reader.now) c.args.reader.now) in
    (length c.args.reader.now, omega arith, after_no_items all ∙ ap (λ vs. parse_map (and_items vs) all) (sym c.new-found.ensures.items), omega arith)

pub read_items-returns-in_err-item-clause-bad_json : goal.read_items-returns-in_err-item-clause-bad_json
read_items-returns-in_err-item-clause-bad_json t c bad =
    let l = c.items in
    let going : (after_end_array l.reader ≡ None) × (c.take_end_array.new.self ≡ l.reader) = grind arith in
    l.invariant.2 ∙ ap (parse_map (and_items l.found.items)) (item_refused (value c.args.depth) l.invariant.0 l.reader going.0 (rw (← going.1) (c.read.ensures.bad_json (grind arith))))

pub read_items-items-preserved : goal.read_items-items-preserved
read_items-items-preserved t c =
    let p = value c.args.depth in
    let l = c.items in
    let n = l.invariant.0 in
    let v = c.in_ok-item.item in
    let r = c.read.new.reader in
    let going : (after_end_array l.reader ≡ None) × (c.take_end_array.new.self ≡ l.reader) = grind arith in
    let less : length r < length l.reader = rw (← going.1) c.in_ok-item.ensures.shorter in
    let turn = item_turn p n l.reader r (view v) (omega (arith, l.invariant.1)) going.0 (rw (← going.1) c.in_ok-item.ensures.ok) in (
      n - 1,
      omega (arith, l.invariant.1),
      l.invariant.2 ∙ ap (parse_map (and_items l.found.items)) turn ∙ next_item l.found.items v _
          ∙ ap (λ vs. parse_map (and_items vs) (converted of_items (items p (n - 1) r))) (sym c.in_ok-push.ensures.ok),
      omega (arith, l.invariant.3),
    )

pub read_items-returns-clause-ok : goal.read_items-returns-clause-ok
read_items-returns-clause-ok t c =
    let l = c.items in
    let r = c.take_end_array.new.self in
    l.invariant.2 ∙ ap (parse_map (and_items l.found.items)) (items_over (value c.args.depth) l.invariant.0 l.reader r l.invariant.1 (grind arith))
    ∙ ap (λ ds. Some (ds, r)) (and_no_items l.found.items) ∙ ap (λ vs. Some (items_view vs, r)) (sym c.shrink_to_fit.ensures.items)

-- ---- the members of an object

pub read_members-members-init : goal.read_members-members-init
read_members-members-init t c =
    let all = members (value c.args.depth) (length c.args.reader.now) c.args.reader.now in
    (length c.args.reader.now, omega arith, ap (λ es. converted (λ ms. of_members ms (members_view es)) all) (sym c.new-found.ensures.items), omega arith)

pub read_members-returns-in_err-name-clause-bad_json : goal.read_members-returns-in_err-name-clause-bad_json
read_members-returns-in_err-name-clause-bad_json t c bad =
    let l = c.members in
    l.invariant.2 ∙ key_refused (value c.args.depth) (members_view l.found.items) l.invariant.0 l.reader c.in_err-name.ensures.value

pub read_members-returns-in_err-member-clause-bad_json : goal.read_members-returns-in_err-member-clause-bad_json
read_members-returns-in_err-member-clause-bad_json t c bad =
    let l = c.members in
    let named : read_key l.reader ≡ Some (Some c.in-Some.name.now, c.next_key.new.self) = grind arith in
    l.invariant.2 ∙ member_refused (value c.args.depth) (members_view l.found.items) l.invariant.0 c.in-Some.name.now l.reader c.next_key.new.self named (c.read.ensures.bad_json (grind arith))

pub read_members-members-preserved : goal.read_members-members-preserved
read_members-members-preserved t c =
    let p = value c.args.depth in
    let l = c.members in
    let n = l.invariant.0 in
    let name = c.in-Some.name in
    let s = c.next_key.new.self in
    let v = c.in_ok-member.member in
    let r = c.read.new.reader in
    let old = members_view l.found.items in
    let named : read_key l.reader ≡ Some (Some name.now, s) = grind arith in
    let less = read_key-shorter l.reader (Some name.now) s named in
    let lesser = c.in_ok-member.ensures.shorter in
    let grown : members_view c.push.new.list.items ≡ put name.now (view v) old = ap members_view c.in_ok-push.ensures.ok ∙ next_member l.found.items (name, v) in (
      n - 1,
      omega (arith, l.invariant.1),
      l.invariant.2 ∙ member_turn p old n name.now l.reader s r (view v) (omega (arith, l.invariant.1)) named c.in_ok-member.ensures.ok
          ∙ ap (λ found. converted (λ ms. of_members ms found) (members p (n - 1) r)) (sym grown),
      omega (arith, l.invariant.3),
    )

pub read_members-returns-clause-ok : goal.read_members-returns-clause-ok
read_members-returns-clause-ok t c =
    let l = c.members in
    let r = c.next_key.new.self in
    l.invariant.2 ∙ members_over (value c.args.depth) (members_view l.found.items) l.invariant.0 l.reader r l.invariant.1 (grind arith)
    ∙ ap (λ es. Some (members_view es, r)) (sym c.shrink_to_fit.ensures.items)
