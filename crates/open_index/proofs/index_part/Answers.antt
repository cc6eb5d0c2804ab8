use Rattle.std.proofs.Common.{rules, of_calls}
use Rattle.open_index.proofs.Members.{member_string, member_type, member_const, member_import, member_func, whole_as, room_as}
use Rattle.open_index.proofs.index_part.Goals as goal

pub index_members-requires : goal.index_members-requires
index_members-requires c κs within =
    let whole = whole_as c.in-Strings.is _ _ c.requires.whole in
    let room = room_as c.in-Strings.is _ _ _ _ c.requires.at_in_bounds in
    search (of_calls, rules, member_string, whole, room) parts 8

pub index_members-requires-in-Types : goal.index_members-requires-in-Types
index_members-requires-in-Types c κs within =
    let whole = whole_as c.in-Types.is _ _ c.requires.whole in
    let room = room_as c.in-Types.is _ _ _ _ c.requires.at_in_bounds in
    search (of_calls, rules, member_type, whole, room) parts 8

pub index_members-requires-in-Consts : goal.index_members-requires-in-Consts
index_members-requires-in-Consts c κs within =
    let whole = whole_as c.in-Consts.is _ _ c.requires.whole in
    let room = room_as c.in-Consts.is _ _ _ _ c.requires.at_in_bounds in
    search (of_calls, rules, member_const, whole, room) parts 8

pub index_members-requires-in-Imports : goal.index_members-requires-in-Imports
index_members-requires-in-Imports c κs within =
    let whole = whole_as c.in-Imports.is _ _ c.requires.whole in
    let room = room_as c.in-Imports.is _ _ _ _ c.requires.at_in_bounds in
    search (of_calls, rules, member_import, whole, room) parts 8

pub index_members-requires-in-Funcs : goal.index_members-requires-in-Funcs
index_members-requires-in-Funcs c κs within =
    let whole = whole_as c.in-Funcs.is _ _ c.requires.whole in
    let room = room_as c.in-Funcs.is _ _ _ _ c.requires.at_in_bounds in
    search (of_calls, rules, member_func, whole, room) parts 8
