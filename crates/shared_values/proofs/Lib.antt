pub mod LastUploads
