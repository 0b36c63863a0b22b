pub mod ScanByVotes
