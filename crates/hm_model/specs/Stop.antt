-- Why a plain call stops before its end.
use Rattle.hm_path.specs.declared.fault.PathFault.{PathFault}
use Rattle.hm_path.specs.declared.fault.PathFault.TheVariants.{BadPath as BadAt, NoMemory as NoSpare}
use Rattle.hm_model.specs.declared.reply.Reply.TheVariants.{BadPath}
use Rattle.hm_model.specs.declared.stop.PlainStop.{PlainStop}
use Rattle.hm_model.specs.declared.stop.PlainStop.TheVariants.{Refused, NoMemory}

-- a path that is bad is refused with its place
abbrev pub stop_of : PathFault → PlainStop
stop_of (BadAt place) = Refused (BadPath place)
stop_of NoSpare = NoMemory
