use Rattle.free_space.proofs.Left.{patches_has, data_has, groups_of_members}
use Rattle.free_space.proofs.room.groups_left.Goals as goal

pub take_patches-requires : goal.take_patches-requires
take_patches-requires c = patches_has c.args.boot.now c.args.segments.now c.requires.lawful c.requires.sound

pub take_data-requires : goal.take_data-requires
take_data-requires c = data_has c.args.boot.now c.args.segments.now c.take_patches.new.free c.requires.lawful c.requires.sound c.take_patches.ensures

pub returns : goal.returns
returns c =
    groups_of_members c.args.boot.now c.args.segments.now c.take_patches.new.free c.take_data.new.free c.count_members.new.free c.groups_of.result c.requires.lawful c.requires.sound
    c.take_patches.ensures c.take_data.ensures c.count_members.ensures c.count_members.array_long c.groups_of.ensures
