-- `controller::put_result` meets its contract.
use Rattle.std.proofs.Common.{◌≡◌, sym, ap, ap₂, ◌∙◌, ℕ, ◌+◌, List, ◌++◌, take, drop, length, length-drop, arith}
use Rattle.std.proofs.lemmas.List.{length-take-le}
use Rattle.model.specs.Limits.{identifier_length, number_length}
use Rattle.model.specs.Bytes.{in_bytes}
use Rattle.model.specs.Events.{identifier_of}
use Rattle.text.proofs.Numbers.{in_bytes_length}
use Rattle.table.specs.Table.{decode}
use Rattle.controller.proofs.Results.{meant_length, take_all, stored, result_kept}
use Rattle.controller.proofs.put_result.Goals as goal

pub slice_bounds-meant-end : goal.slice_bounds-meant-end
slice_bounds-meant-end c = sym (length-take-le identifier_length c.args.payload.now (omega (arith, c.requires.payload)))

pub copy_from_slice-requires : goal.copy_from_slice-requires
copy_from_slice-requires c =
    let a = length-take-le identifier_length c.args.place.now (omega arith) in
    let l = meant_length (take identifier_length c.args.payload.now) c.in_force.result.now c.meant-identifier.ensures
    (length-take-le identifier_length c.args.payload.now (omega (arith, c.requires.payload))) c.in_force.ensures.1 in
    omega (arith, a, l)

pub returns : goal.returns
returns c =
    let p = c.args.payload.now in
    let x = c.meant-identifier.result.now in
    let n = c.last-number.result + 1 in
    let l = meant_length (take identifier_length p) c.in_force.result.now c.meant-identifier.ensures
    (length-take-le identifier_length p (omega (arith, c.requires.payload))) c.in_force.ensures.1 in
    let ns = in_bytes number_length n in
    let b = c.copy_from_slice.ensures.after in
    let d : c.copy_from_slice-2.new.self ≡ drop identifier_length p =
    c.copy_from_slice-2.ensures.after ∙ take_all (drop identifier_length p) (length-drop identifier_length p) in
    let e : c.put_little.new.out ≡ x ++ (drop identifier_length p ++ ns) =
    stored _ _ c.args.place.now ns (ap length b ∙ l) (ap length d ∙ simp length-drop (omega (arith, c.requires.payload)))
    (omega (arith, in_bytes_length number_length n))
    c.put_little.ensures.1.output ∙ ap₂ (λ (u v : List ℕ). u ++ (v ++ ns)) b d in
    rw e (result_kept x p n l c.requires.payload (omega (arith, c.last-number.ensures.0, c.last-number.ensures.1, c.requires.number))
    (decode c.args.table.now).shared
    (c.meant-identifier.ensures ∙ ap (identifier_of (take identifier_length p)) c.in_force.ensures.0)
    (ap (λ (k : ℕ). k + 1) c.last-number.ensures.0))
