-- The bytes of what a session answers.
use Rattle.std.specs.Prelude.{ℕ, cond, List, ◌++◌, codes, Ok, Err}
use Rattle.resp2_wire.specs.View.{tree}
use Rattle.resp2_wire.specs.Limits.{is_within}
use Rattle.resp2_wire.specs.Encoding.{encoding}
use Rattle.resp2_wire.specs.Faults.{text_of}
use Rattle.resp2_wire.specs.declared.fault.WireFault.{WireFault}
use Rattle.cluster_world.specs.Ports.{Answer}
use Rattle.cluster_admin.specs.declared.port_fault.PortFault.TheVariants.{Memory, Io, Wire}

abbrev pub out_of_memory : List ℕ
out_of_memory = codes "-OOM out of memory\r\n"

abbrev pub unreachable : List ℕ
unreachable = codes "-ERR the node cannot be reached\r\n"

-- the bytes of an answer; what is beyond the limits has no encoding, and is reported as if it had not come
unfoldable pub answer_text : Answer → List ℕ
answer_text (Ok reply) = cond (is_within 8 (tree reply)) (encoding (tree reply)) unreachable
answer_text (Err Memory) = out_of_memory
answer_text (Err Io) = unreachable
answer_text (Err Wire) = unreachable

-- the last line at a fault of the stream
unfoldable pub fault_line : WireFault → List ℕ
fault_line f = codes "-ERR Protocol error: " ++ text_of f ++ codes "\r\n"
