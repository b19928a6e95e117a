use Rattle.free_space.proofs.Tables.{ready, can_mark_patches, can_mark_data, map_done}
use Rattle.free_space.proofs.map.map_of.Goals as goal

pub mark_patches-requires : goal.mark_patches-requires
mark_patches-requires c =
    let boot = c.args.boot.now in
    let made = ready boot c.in_ok-map.map c.set_members.new.map c.requires.lawful c.in_ok-map.ensures c.set_members.ensures in
    can_mark_patches boot c.args.segments.now c.set_members.new.map c.requires.lawful c.requires.sound made

pub mark_data-requires : goal.mark_data-requires
mark_data-requires c =
    let boot = c.args.boot.now in
    let made = ready boot c.in_ok-map.map c.set_members.new.map c.requires.lawful c.in_ok-map.ensures c.set_members.ensures in
    can_mark_data boot c.args.segments.now c.set_members.new.map c.mark_patches.new.map c.requires.lawful c.requires.sound made c.mark_patches.ensures

pub returns : goal.returns
returns c =
    let boot = c.args.boot.now in
    let made = ready boot c.in_ok-map.map c.set_members.new.map c.requires.lawful c.in_ok-map.ensures c.set_members.ensures in
    map_done boot c.args.segments.now c.set_members.new.map c.mark_patches.new.map c.mark_data.new.map c.requires.lawful c.requires.sound made c.mark_patches.ensures c.mark_data.ensures
